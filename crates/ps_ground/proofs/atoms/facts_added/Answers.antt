use Rattle.std.proofs.Common.{◌≡◌, ◌+◌, ◌++◌, ◌∷◌, Global, List, Some, Vec, drop, flat_map, ap, sym, ◌∙◌, subst, arith}
use Rattle.std.specs.List.{cons_option}
use Rattle.std.proofs.lemmas.List.{append_assoc, drop_more}
use Rattle.ps_world.specs.Knowledge.{action_of}
use Rattle.ps_world.specs.declared.facts.Fact.{Fact}
use Rattle.ps_action.specs.Grounding.{grounded}
use Rattle.ps_action.specs.declared.acts.Act.{Act}
use Rattle.ps_ground.specs.Fitting.{AreFit, IsFit, grounds_of}
use Rattle.ps_ground.specs.Atoms.{adds}
use Rattle.ps_ground.proofs.Fitted.{fit_grounds}
use Rattle.ps_ground.proofs.atoms.facts_added.Goals as goal
use Rattle.ps_ground.proofs.atoms.facts_added.Goals.{in-Some+in_ok-push_adds, in_default}

pub loop-act-preserved : goal.loop-act-preserved
loop-act-preserved c =
    let d = c.args.expert.now in
    let k = c.args.problem.now in
    let acts = c.args.acts.now in
    let i = c.loop-act.act-index in
    let x = c.act-item.result in
    let old = c.loop-act.facts.items in
    let split : drop i acts ≡ x ∷ drop (i + 1) acts = drop_more acts i x (omega arith) ∙ ap (λ (y : Act). y ∷ drop (i + 1) acts) (sym c.act-item.is) in
    let P : List Act → Type 0 = AreFit d k in
    let rest = flat_map (adds d k) (grounds_of d k (drop (i + 1) acts)) in
    let fits : IsFit d k x × AreFit d k (drop (i + 1) acts) = subst P split c.loop-act.invariant.fit in
    record {
      facts = elim c.match-action.branch [
        | in-Some+in_ok-push_adds w ↦
            let a = w.in-Some.action.now in
            let is : action_of d x.action ≡ Some a = sym (rw w.in-Some.is at c.action.ensures) in
            ap (λ (v : Vec Fact Global). v.items ++ rest) w.facts-is
            ∙ ap (λ (l : List Fact). l ++ rest) w.in_ok-push_adds.ensures
            ∙ append_assoc old (adds d k (grounded a x)) rest
            ∙ (λ j. old ++ flat_map (adds d k) (cons_option (sym (fit_grounds d k x a is fits.0) j) (grounds_of d k (drop (i + 1) acts))))
            ∙ (λ j. old ++ flat_map (adds d k) (grounds_of d k (sym split j)))
            ∙ c.loop-act.invariant.facts
        | in_default w ↦
            let none = rw w.in_default.is at c.action.ensures in
            absurd (cc (none, fits.0.declared))
      ];
      fit = fits.1;
    }
