use Rattle.std.proofs.Common.{◌++◌, [], ◌∷◌, sym, subst, ◌∙◌}
use Rattle.ps_ledger.specs.Answers.{TellsAnswers}
use Rattle.ps_ledger.proofs.ledger.Ledger.take.Goals as goal

pub returns-clause-told : goal.returns-clause-told
returns-clause-told c = λ es e is t. record {
  run = c.take.ensures es e is t.run;
  acts = c.take-2.ensures es e is t.acts;
  requests = c.take-3.ensures.told es e is t.requests;
  jobs = c.take-4.ensures.jobs es e is t.jobs;
  work = c.take-4.ensures.work es e is t.work;
  units = c.take-4.ensures.units es e is t.units;
  performers = c.take-6.ensures.told es e is t.performers;
  observers = c.take-7.ensures.told es e is t.observers;
  rows = c.take-5.ensures.rows es e is t.rows;
  answers = subst (λ names. TellsAnswers names (es ++ e ∷ []) c.take-5.new.self) (c.deref.ensures.value ∙ sym c.take-6.ensures.names) (c.take-5.ensures.told es e is (subst (λ names. TellsAnswers names es c.args.self.now.answers) (sym c.deref.ensures.value) t.answers));
  lines = c.take-8.ensures es e is t.lines;
  offers = c.take-9.ensures.told es e is t.offers;
  ends = c.take-10.ensures es e is t.ends;
}
