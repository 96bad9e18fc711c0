use Rattle.std.proofs.Common.{List, map, ap, ◌∙◌}
use Rattle.ps_world.specs.declared.names.Name.{Name}
use Rattle.ps_action.specs.Grounding.{put_cond}
use Rattle.ps_action.specs.Truth.{all_true}
use Rattle.ps_ground.specs.States.{at}
use Rattle.ps_ground.proofs.Fixedness.{no_at_end, no_over_all, no_start}
use Rattle.ps_ground.proofs.fixed.Fixed.bars.Goals as goal

pub returns-then-has_never_holding : goal.returns-then-has_never_holding
returns-then-has_never_holding c =
    let heads = c.args.self.now.heads.keys in
    let known = c.args.self.now.facts in
    let a = c.args.action.now in
    λ yes tail laid act first same is d k facts fixed atoms s over.
    no_over_all d k facts heads known fixed a act atoms
    (λ t are. ap (λ (names : List Name). all_true d (at k t) (map (put_cond names) a.conditions.over_all)) is ∙ c.has_never_holding.ensures c.if-has_never_holding.true tail laid first same d k t are) s over

pub returns-then-has_never_holding-2 : goal.returns-then-has_never_holding-2
returns-then-has_never_holding-2 c =
    let heads = c.args.self.now.heads.keys in
    let known = c.args.self.now.facts in
    let a = c.args.action.now in
    λ yes tail laid act first same is d k facts fixed atoms s over.
    no_start d k facts heads known fixed a act atoms
    (λ t are. ap (λ (names : List Name). all_true d (at k t) (map (put_cond names) a.conditions.at_start)) is ∙ c.has_never_holding-2.ensures c.if-has_never_holding-2.true tail laid first same d k t are) s over

pub returns : goal.returns
returns c =
    let heads = c.args.self.now.heads.keys in
    let known = c.args.self.now.facts in
    let a = c.args.action.now in
    λ yes tail laid act first same is d k facts fixed atoms s over.
    no_at_end d k facts heads known fixed a act atoms
    (λ t are. ap (λ (names : List Name). all_true d (at k t) (map (put_cond names) a.conditions.at_end)) is ∙ c.has_never_holding-3.ensures yes tail laid first same d k t are) s over
