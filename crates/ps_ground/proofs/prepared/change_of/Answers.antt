use Rattle.std.proofs.Common.{◌≡◌, [], List, map, ap, sym, ◌∙◌, subst}
use Rattle.ps_world.specs.declared.actions.Spread.{Spread}
use Rattle.ps_action.specs.Grounding.{put_spread}
use Rattle.ps_ground.specs.Atoms.{MayAddAtoms}
use Rattle.ps_ground.specs.States.{changed}
use Rattle.ps_ground.proofs.PuttingIn.{no_spreads, none_of}
use Rattle.ps_ground.proofs.prepared.change_of.Goals as goal

pub returns-clause-same : goal.returns-clause-same
returns-clause-same c =
    let es = c.args.effects.now in
    let none : c.args.args.now ≡ [] = none_of c.args.args.now c.is_empty.result c.is_empty.ensures c.if-not-is_empty.false in
    let same : es ≡ map (put_spread c.args.args.now) es = sym (no_spreads es) ∙ (λ i. map (put_spread (sym none i)) es) in
    λ d k s o a. c.in_ok-stated_of.ensures.same d k c.args.atoms.now s ∙ ap (changed d k s) same

pub returns-clause-sound : goal.returns-clause-sound
returns-clause-sound c =
    let es = c.args.effects.now in
    let none : c.args.args.now ≡ [] = none_of c.args.args.now c.is_empty.result c.is_empty.ensures c.if-not-is_empty.false in
    let same : es ≡ map (put_spread c.args.args.now) es = sym (no_spreads es) ∙ (λ i. map (put_spread (sym none i)) es) in
    λ d k a.
    let P : List Spread → Type 0 = MayAddAtoms d k c.args.atoms.now in
    c.in_ok-stated_of.ensures.sound d k c.args.atoms.now (subst P (sym same) a)

pub returns-then-are_flags-clause-sound : goal.returns-then-are_flags-clause-sound
returns-then-are_flags-clause-sound c = λ d k a. c.in_ok-flags_of.ensures.sound d k
