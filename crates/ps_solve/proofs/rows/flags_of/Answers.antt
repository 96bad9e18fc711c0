use Rattle.std.proofs.Common.{◌≡◌, ◌+◌, ◌∷◌, Bool, List, false, drop, fold, length, ap, sym, ◌∙◌, arith}
use Rattle.std.specs.BTreeSet.{insert_key}
use Rattle.std.proofs.lemmas.List.{drop_more, length-replicate}
use Rattle.ps_world.specs.Facts.{fact_cmp}
use Rattle.ps_world.specs.declared.facts.Fact.{Fact}
use Rattle.ps_solve.specs.Rows.{facts_of}
use Rattle.ps_solve.proofs.FlagRows.{none_set}
use Rattle.ps_ground.proofs.Preparing.{facts_split}
use Rattle.ps_solve.proofs.rows.flags_of.Goals as goal

pub loop-fact-init : goal.loop-fact-init
loop-fact-init c =
    let flags = c.in_ok-flags.ensures in
    let size = length c.as_slice.result.now in
    record {
      facts = ap (λ (l : List Bool). fold (insert_key fact_cmp) (facts_of c.args.atoms.now l) c.args.facts.now) flags
          ∙ ap (λ (l : List Fact). fold (insert_key fact_cmp) l c.args.facts.now) (none_set c.args.atoms.now size);
      wide = ap (λ (l : List Bool). length l) flags ∙ length-replicate size false ∙ ap (λ (l : List Fact). length l) c.as_slice.ensures.facts;
      left = c.requires;
    }

pub loop-fact-preserved : goal.loop-fact-preserved
loop-fact-preserved c =
    let atoms = c.args.atoms.now in
    let fs = c.args.facts.now in
    let i = c.loop-fact.fact-index in
    let f = c.fact-item.result in
    let known = facts_of atoms c.loop-fact.flags in
    let split : drop i fs ≡ f ∷ drop (i + 1) fs = drop_more fs i f (omega arith) ∙ ap (λ (x : Fact). x ∷ drop (i + 1) fs) (sym c.fact-item.is) in
    record {
      facts = ap (λ (l : List Fact). fold (insert_key fact_cmp) l (drop (i + 1) fs)) c.learn-near.ensures.set
          ∙ ap (λ (l : List Fact). fold (insert_key fact_cmp) known l) (sym split) ∙ c.loop-fact.invariant.facts;
      wide = c.learn-near.ensures.wide ∙ c.loop-fact.invariant.wide;
      left = (facts_split atoms f fs i split c.loop-fact.invariant.left).1;
    }

pub learn-near-requires-clause-atom : goal.learn-near-requires-clause-atom
learn-near-requires-clause-atom c =
    let fs = c.args.facts.now in
    let i = c.loop-fact.fact-index in
    let f = c.fact-item.result in
    let split : drop i fs ≡ f ∷ drop (i + 1) fs = drop_more fs i f (omega arith) ∙ ap (λ (x : Fact). x ∷ drop (i + 1) fs) (sym c.fact-item.is) in
    (facts_split c.args.atoms.now f fs i split c.loop-fact.invariant.left).0
