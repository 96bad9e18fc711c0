use Rattle.ps_journal.proofs.facts.EditPrinted.print.Goals as goal

pub returns-in-AddInstance : goal.returns-in-AddInstance
returns-in-AddInstance c = rw c.in-AddInstance.is c.push_both.ensures

pub returns-in-RemoveInstance : goal.returns-in-RemoveInstance
returns-in-RemoveInstance c = rw c.in-RemoveInstance.is c.push_after.ensures

pub returns-in-AddFact : goal.returns-in-AddFact
returns-in-AddFact c = rw c.in-AddFact.is c.push_after-in-AddFact.ensures

pub returns-in-RemoveFact : goal.returns-in-RemoveFact
returns-in-RemoveFact c = rw c.in-RemoveFact.is c.push_after-in-RemoveFact.ensures

pub returns-in-SetValue : goal.returns-in-SetValue
returns-in-SetValue c = rw c.in-SetValue.is c.push_value_after.ensures

pub returns-in-RemoveValue : goal.returns-in-RemoveValue
returns-in-RemoveValue c = rw c.in-RemoveValue.is c.push_after-in-RemoveValue.ensures
