use Rattle.std.proofs.Common.{◌&&◌, Some, refl, ap, sym, ◌∙◌}
use Rattle.std.specs.List.{list_any}
use Rattle.ps_world.specs.Bound.{ground_in}
use Rattle.ps_world.specs.CondViews.{cond_tree}
use Rattle.ps_world.specs.Knowledge.{same_fact}
use Rattle.ps_world.specs.declared.facts.Fact.{Fact}
use Rattle.ps_action.specs.Grounding.{put_cond}
use Rattle.ps_action.specs.Truth.{is_true}
use Rattle.ps_ground.specs.States.{at}
use Rattle.ps_ground.specs.Prepared.{passes}
use Rattle.ps_ground.proofs.PuttingIn.{known_in, taken_fact}
use Rattle.ps_ground.proofs.prepared.take_in.Goals as goal

pub returns-in_ok-push-in-Some : goal.returns-in_ok-push-in-Some
returns-in_ok-push-in-Some c =
    let args = c.args.args.now in
    let test = c.args.test.now in
    record {
      taken = λ yes d k s.
          taken_fact d k s args c.in-Holds.lifted c.args.atoms.now test test.others c.push.new.self.items c.in-Some.place c.in_ok-push-in-Some.ensures.ok refl (c.in-Some.ensures.place ∙ ap Some (c.ground_in.ensures ∙ ap (ground_in args) c.get.ensures))
          ∙ (λ i. passes d k c.args.atoms.now test s && is_true d (at k s) (put_cond args (cond_tree (sym c.in-Holds.is i))));
      never = λ out. absurd (cc);
      ready = λ out. absurd (cc);
    }

pub returns-in-None : goal.returns-in-None
returns-in-None c = record {
  taken = λ out. absurd (cc);
  never = λ out d k s over.
      (λ i. is_true d (at k s) (put_cond c.args.args.now (cond_tree (c.in-Holds.is i))))
      ∙ known_in d k s c.args.args.now c.in-Holds.lifted
      ∙ ap (λ (f : Fact). list_any (same_fact f) s.facts) (sym (c.ground_in.ensures ∙ ap (ground_in c.args.args.now) c.get.ensures))
      ∙ over c.ground_in.result c.in-None.ensures.place;
  ready = λ out. absurd (cc);
}
