use Rattle.std.proofs.Common.{◌≡◌, ◌+◌, ◌++◌, ◌∷◌, [], Global, List, Option, Vec, drop, length, ap, subst, sym, ◌∙◌, arith}
use Rattle.std.specs.Result.{result_ok}
use Rattle.std.proofs.lemmas.List.{append-nil, drop_more, length-append}
use Rattle.ps_action.specs.Grounding.{ground_act}
use Rattle.ps_action.specs.declared.acts.Act.{Act}
use Rattle.ps_action.specs.declared.acts.GroundAction.{GroundAction}
use Rattle.ps_ground.specs.Atoms.{adds}
use Rattle.ps_ground.specs.Fitting.{AreFit}
use Rattle.ps_ground.specs.Moves.{Node}
use Rattle.ps_ground.specs.Prepared.{AreSound, successor_nodes}
use Rattle.ps_ground.specs.declared.prepared.Prepared.{Prepared}
use Rattle.ps_ground.proofs.Gathering.{gathered, one_given}
use Rattle.ps_ground.proofs.Preparing.{prepared_more, sound_more}
use Rattle.ps_ground.proofs.prepared.prepare_all.Goals as goal
use Rattle.ps_ground.proofs.prepared.prepare_all.Goals.{in-Some+in_ok-push, in_default}

pub loop-act-preserved : goal.loop-act-preserved
loop-act-preserved c =
    let d = c.args.expert.now in
    let k = c.args.problem.now in
    let atoms = c.args.atoms.now in
    let acts = c.args.acts.now in
    let i = c.loop-act.act-index in
    let x = c.act-item.result in
    let found = c.loop-act.all.items in
    let ground : Act → Option GroundAction = λ act. result_ok (ground_act d k.instances act) in
    let split : drop i acts ≡ x ∷ drop (i + 1) acts = drop_more acts i x (omega arith) ∙ ap (λ (y : Act). y ∷ drop (i + 1) acts) (sym c.act-item.is) in
    record {
      same = elim c.match-branch-3.branch [
        | in-Some+in_ok-push w ↦
            let made = rw w.in-Some.is at c.in_ok-one.ensures.same in
            λ n over.
            let old = successor_nodes d k atoms found n in
            gathered d k n ground acts i x old (successor_nodes d k atoms c.match-branch-3.all.items n) split
            (ap (λ (v : Vec Prepared Global). successor_nodes d k atoms v.items n) w.all-is
            ∙ ap (λ (l : List Prepared). successor_nodes d k atoms l n) w.in_ok-push.ensures.items
            ∙ prepared_more d k atoms n found w.in-Some.one
            ∙ ap (λ (l : List Node). old ++ l) (made n over))
            ∙ c.loop-act.invariant.same n over
        | in_default w ↦
            let useless = rw w.in_default.is at c.in_ok-one.ensures.same in
            λ n over.
            let old = successor_nodes d k atoms found n in
            gathered d k n ground acts i x old (successor_nodes d k atoms c.match-branch-3.all.items n) split
            (ap (λ (v : Vec Prepared Global). successor_nodes d k atoms v.items n) w.all-is
            ∙ sym (append-nil old)
            ∙ ap (λ (l : List Node). old ++ l) (useless n over))
            ∙ c.loop-act.invariant.same n over
      ];
      sound = elim c.match-branch-3.branch [
        | in-Some+in_ok-push w ↦
            let one = rw w.in-Some.is at c.in_ok-one.ensures.sound in
            let P : List Prepared → Type 0 = AreSound d k atoms in
            subst P (sym (ap (λ (v : Vec Prepared Global). v.items) w.all-is ∙ w.in_ok-push.ensures.items)) (sound_more d k atoms found w.in-Some.one c.loop-act.invariant.sound one)
        | in_default w ↦
            let P : List Prepared → Type 0 = AreSound d k atoms in
            subst P (sym (ap (λ (v : Vec Prepared Global). v.items) w.all-is)) c.loop-act.invariant.sound
      ];
      count = elim c.match-branch-3.branch [
        | in-Some+in_ok-push w ↦
            let more = length-append found (w.in-Some.one ∷ []) in
            omega (arith, more, ap (λ (v : Vec Prepared Global). length v.items) w.all-is ∙ ap length w.in_ok-push.ensures.items, c.loop-act.invariant.count)
        | in_default w ↦ omega (arith, ap (λ (v : Vec Prepared Global). length v.items) w.all-is, c.loop-act.invariant.count)
      ];
      fit =
          let P : List Act → Type 0 = AreFit d k in
          (subst P split c.loop-act.invariant.fit).1;
    }

pub prepare-requires-clause-atoms : goal.prepare-requires-clause-atoms
prepare-requires-clause-atoms c =
    let d = c.args.expert.now in
    let k = c.args.problem.now in
    let acts = c.args.acts.now in
    let i = c.loop-act.act-index in
    let x = c.act-item.result in
    let ground : Act → Option GroundAction = λ act. result_ok (ground_act d k.instances act) in
    let split : drop i acts ≡ x ∷ drop (i + 1) acts = drop_more acts i x (omega arith) ∙ ap (λ (y : Act). y ∷ drop (i + 1) acts) (sym c.act-item.is) in
    one_given (adds d k) ground i acts (drop (i + 1) acts) x c.args.atoms.now split c.requires.atoms

pub prepare-requires-clause-fit : goal.prepare-requires-clause-fit
prepare-requires-clause-fit c =
    let d = c.args.expert.now in
    let k = c.args.problem.now in
    let acts = c.args.acts.now in
    let i = c.loop-act.act-index in
    let x = c.act-item.result in
    let split : drop i acts ≡ x ∷ drop (i + 1) acts = drop_more acts i x (omega arith) ∙ ap (λ (y : Act). y ∷ drop (i + 1) acts) (sym c.act-item.is) in
    let P : List Act → Type 0 = AreFit d k in
    (subst P split c.loop-act.invariant.fit).0
