use Rattle.std.proofs.Common.{sym, ap, ◌∙◌, map, take, subst}
use Rattle.std.proofs.lemmas.List.{take-map}
use Rattle.ps_text.specs.Names.{AreNames}
use Rattle.ps_text.proofs.Tables.{AreNames-take}
use Rattle.ps_text.proofs.table.Names.cut_back.Goals as goal

pub invariant_of-self : goal.invariant_of-self
invariant_of-self c =
    let table = ap (map (λ v. v.items)) c.truncate.ensures.keys
    ∙ sym (take-map (λ v. v.items) c.args.len c.deref_mut.result.now.set.keys)
    ∙ ap (λ s. take c.args.len (map (λ v. v.items) s.set.keys)) c.deref_mut.ensures.value in
    subst AreNames (sym table) (AreNames-take _ c.args.len c.requires c.self.invariant)

pub returns : goal.returns
returns c =
    ap (map (λ v. v.items)) c.truncate.ensures.keys
    ∙ sym (take-map (λ v. v.items) c.args.len c.deref_mut.result.now.set.keys)
    ∙ ap (λ s. take c.args.len (map (λ v. v.items) s.set.keys)) c.deref_mut.ensures.value
    ∙ ap (take c.args.len) c.self.view_is
