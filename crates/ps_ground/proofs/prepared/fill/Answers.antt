use Rattle.std.proofs.Common.{ap}
use Rattle.std.specs.Prelude.{option_and_then}
use Rattle.ps_ground.specs.Fitting.{parts_with}
use Rattle.ps_ground.specs.States.{changed, ended, where_so}
use Rattle.ps_ground.specs.declared.prepared.Prepared.{Prepared}
use Rattle.ps_ground.proofs.Preparing.{bare_passes, first_atoms, last_atoms, leads_alike, no_last, no_over}
use Rattle.ps_ground.proofs.prepared.fill.Goals as goal

pub returns-then-not-is_whole-clause-never : goal.returns-then-not-is_whole-clause-never
returns-then-not-is_whole-clause-never c =
    let g = parts_with c.args.args.now c.args.conditions.now c.args.effects.now in
    λ no d k a s o. ap (λ b. option_and_then (ended d k g) (where_so b (changed d k s g.effects.at_start))) (c.in_ok-start.ensures.never no d k s o)

pub returns-then-not-is_whole-2-clause-never : goal.returns-then-not-is_whole-2-clause-never
returns-then-not-is_whole-2-clause-never c =
    let g = parts_with c.args.args.now c.args.conditions.now c.args.effects.now in
    λ no d k a s o. no_over d k c.args.atoms.now g (c.in_ok-over.ensures.never no d k) (first_atoms d k c.args.atoms.now g a) s o

pub returns-then-not-is_whole-3-clause-never : goal.returns-then-not-is_whole-3-clause-never
returns-then-not-is_whole-3-clause-never c =
    let g = parts_with c.args.args.now c.args.conditions.now c.args.effects.now in
    λ no d k a s o. no_last d k c.args.atoms.now g (c.in_ok-end.ensures.never no d k) (first_atoms d k c.args.atoms.now g a) s o

pub returns-clause-same : goal.returns-clause-same
returns-clause-same c =
    let atoms = c.args.atoms.now in
    let g = parts_with c.args.args.now c.args.conditions.now c.args.effects.now in
    let p : Prepared = record {
      act = c.args.made.now.act;
      start = c.take_all.new.test;
      over = c.take_all-2.new.test;
      end = c.take_all-3.new.test;
      at_start = c.in-Some.at_start;
      at_end = c.in-Some-2.at_end;
      footprint = c.of-made.result;
    } in
    let at_start = rw c.in-Some.is at c.in_ok-at_start.ensures.same in
    let at_end = rw c.in-Some-2.is at c.in_ok-at_end.ensures.same in
    λ yes d k a s o.
    leads_alike d k atoms g p
    (λ t. bare_passes d k atoms t c.args.made.now.start c.take_all.new.test _ c.requires.start (c.in_ok-start.ensures.taken (c.is_whole.ensures.yes c.if-not-is_whole.false) d k t))
    (λ t. bare_passes d k atoms t c.args.made.now.over c.take_all-2.new.test _ c.requires.over (c.in_ok-over.ensures.taken (c.is_whole-2.ensures.yes c.if-not-is_whole-2.false) d k t))
    (λ t. bare_passes d k atoms t c.args.made.now.end c.take_all-3.new.test _ c.requires.end (c.in_ok-end.ensures.taken (c.is_whole-3.ensures.yes c.if-not-is_whole-3.false) d k t))
    (λ t over. at_start d k t over (first_atoms d k atoms g a)) (λ t over. at_end d k t over (last_atoms d k atoms g a)) (first_atoms d k atoms g a) s o

pub returns-clause-sound : goal.returns-clause-sound
returns-clause-sound c =
    let atoms = c.args.atoms.now in
    let g = parts_with c.args.args.now c.args.conditions.now c.args.effects.now in
    let at_start = rw c.in-Some.is at c.in_ok-at_start.ensures.sound in
    let at_end = rw c.in-Some-2.is at c.in_ok-at_end.ensures.sound in
    λ yes d k a.
    record {
      start = at_start d k (first_atoms d k atoms g a);
      end = at_end d k (last_atoms d k atoms g a);
      footprint = record { plain = c.of-made.ensures.plain; changed = c.of-made.ensures.changed; touched = c.of-made.ensures.touched };
    }
