use Rattle.std.proofs.Common.{◌≡◌, rules, nat_lt, ap, sym, ◌∙◌}
use Rattle.std.proofs.lemmas.Bool.{and_parts}
use Rattle.ps_machine.specs.declared.journal.Event.TheVariants as event
use Rattle.ps_machine.specs.declared.journal.By.TheVariants as by
use Rattle.ps_rules.specs.Runs.{opens}
use Rattle.ps_rules.specs.Members.{is_observed}
use Rattle.ps_ledger.specs.Members.{at_name, has_name, speaks_of_observers}
use Rattle.ps_ledger.proofs.NamePlaces.{seen-now}
use Rattle.ps_ledger.proofs.members.Observers.take.Goals as goal

pub returns-in-Edit-Observer-default-clause-told : goal.returns-in-Edit-Observer-default-clause-told
returns-in-Edit-Observer-default-clause-told c =
    λ es e is t.
    let what : c.args.event.now ≡ event.Edit (by.Observer c.in-Edit-Observer-default.by) c.in-Edit-Observer-default.edit = search rules in
    seen-now es e c.args.self.now c.see.new.self c.in-Edit-Observer-default.by t (ap opens (is ∙ what)) (λ o. ap (is_observed o) (is ∙ what)) c.see.ensures.names c.see.ensures.seen
    (and_parts (has_name c.args.self.now.names.items c.args.self.now.seen.items c.in-Edit-Observer-default.by) (nat_lt (at_name c.args.self.now.names.items c.args.self.now.seen.items c.in-Edit-Observer-default.by 0) 18446744073709551615) (ap (speaks_of_observers c.args.self.now) (sym what) ∙ c.requires)).0

pub returns-in-Refused-Observer-default-clause-told : goal.returns-in-Refused-Observer-default-clause-told
returns-in-Refused-Observer-default-clause-told c =
    λ es e is t.
    let what : c.args.event.now ≡ event.Refused (by.Observer c.in-Refused-Observer-default.by) c.in-Refused-Observer-default.why = search rules in
    seen-now es e c.args.self.now c.see-in-Refused-Observer-default.new.self c.in-Refused-Observer-default.by t (ap opens (is ∙ what)) (λ o. ap (is_observed o) (is ∙ what)) c.see-in-Refused-Observer-default.ensures.names c.see-in-Refused-Observer-default.ensures.seen
    (and_parts (has_name c.args.self.now.names.items c.args.self.now.seen.items c.in-Refused-Observer-default.by) (nat_lt (at_name c.args.self.now.names.items c.args.self.now.seen.items c.in-Refused-Observer-default.by 0) 18446744073709551615) (ap (speaks_of_observers c.args.self.now) (sym what) ∙ c.requires)).0
