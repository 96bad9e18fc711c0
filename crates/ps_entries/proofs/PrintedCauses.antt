-- A printed cause is read back.
use Rattle.std.proofs.Common.{◌≡◌, ℕ, ◌-◌, ◌^◌, ◌<◌, true, ◌&&◌, List, [], ◌∷◌, ◌++◌, codes, length, map, Option, Some, refl, ap, ◌∙◌, arith}
use Rattle.std.proofs.lemmas.Bool.{and_parts}
use Rattle.std.proofs.lemmas.Bool.Decides.{nat_tests}
use Rattle.std.specs.Fmt.{decimal}
use Rattle.ps_world.specs.Names.{Table, name_text}
use Rattle.ps_world.specs.declared.names.Name.{Name}
use Rattle.ps_world.specs.declared.edits.EditRefusal.{EditRefusal}
use Rattle.ps_world.specs.declared.edits.EditRefusal.TheVariants as edit
use Rattle.ps_action.specs.declared.refusals.EffectRefusal.{EffectRefusal}
use Rattle.ps_action.specs.declared.refusals.EffectRefusal.TheVariants as effect
use Rattle.ps_action.specs.declared.refusals.GroundRefusal.{GroundRefusal}
use Rattle.ps_action.specs.declared.refusals.GroundRefusal.TheVariants as ground
use Rattle.ps_action.specs.declared.refusals.PlanRefusal.{PlanRefusal}
use Rattle.ps_action.specs.declared.refusals.PlanRefusal.TheVariants as plan
use Rattle.ps_action.specs.declared.refusals.PlanTextRefusal.{PlanTextRefusal}
use Rattle.ps_action.specs.declared.refusals.PlanTextRefusal.TheVariants as plantext
use Rattle.ps_machine.specs.Texts.{refusal_text}
use Rattle.ps_machine.specs.declared.inputs.LineCause.{LineCause}
use Rattle.ps_machine.specs.declared.inputs.LineCause.TheVariants as line
use Rattle.ps_machine.specs.declared.journal.Refusal.{Refusal}
use Rattle.ps_machine.specs.declared.journal.Refusal.TheVariants as refusal
use Rattle.ps_text.specs.Names.{AreNames}
use Rattle.ps_text.specs.Words.{words}
use Rattle.ps_entries.specs.Words.{name_of, up_to, whole_number}
use Rattle.ps_entries.specs.Forms.{is_cause, is_known, is_long, is_short}
use Rattle.ps_entries.specs.Causes.{cause_at}
use Rattle.ps_entries.proofs.KnownNames.{name_of-text}
use Rattle.ps_entries.proofs.Numbers.{up_to-is, whole_number-decimal}
use Rattle.ps_entries.proofs.HeadWords.{is_run-decimal, is_run-name, words-both, words-last, words-then}

pub long-of : (n : ℕ) → is_long n ≡ true → n < 2 ^ 64
long-of n h = grind (arith, nat_tests)

pub short-of : (n : ℕ) → is_short n ≡ true → n < 2 ^ 32
short-of n h = grind (arith, nat_tests)

pub known-of : (count : ℕ) (n : Name) → is_known count n ≡ true → n.0 < count
known-of count n h = grind (arith, nat_tests)

pub short-decimal : (n : ℕ) → is_short n ≡ true → up_to (2 ^ 32 - 1) (whole_number (decimal n)) ≡ Some n
short-decimal n h =
    let small = short-of n h in
    ap (up_to (2 ^ 32 - 1)) (whole_number-decimal n (omega (arith, small))) ∙ up_to-is (2 ^ 32 - 1) n (omega (arith, small))

pub word-long : (n : ℕ) → is_long n ≡ true → words (decimal n) ≡ decimal n ∷ []
word-long n h = words-last (decimal n) (is_run-decimal n (long-of n h))

pub word-short : (n : ℕ) → is_short n ≡ true → words (decimal n) ≡ decimal n ∷ []
word-short n h =
    let small = short-of n h in
    words-last (decimal n) (is_run-decimal n (omega (arith, small)))

module _ (t : Table) (names : AreNames t) where
  -- what the words of a text tell
  abbrev told : List ℕ → Option Refusal
  told text = cause_at (words text) (map (name_of t) (words text)) 0

  told-line : (cause : LineCause) → is_cause (length t) (refusal.Line cause) ≡ true → told (refusal_text t (refusal.Line cause)) ≡ Some (refusal.Line cause)
  told-line (line.Lex at) h = rw (word-long at h, whole_number-decimal at (long-of at h)) refl
  told-line (line.Number at) h = rw (word-long at h, whole_number-decimal at (long-of at h)) refl
  told-line line.Command h = refl
  told-line (line.Shape at) h = rw (word-long at h, whole_number-decimal at (long-of at h)) refl
  told-line line.Nest h = refl

  told-edit : (r : EditRefusal) → is_cause (length t) (refusal.Edit r) ≡ true → told (refusal_text t (refusal.Edit r)) ≡ Some (refusal.Edit r)
  told-edit edit.NoType h = refl
  told-edit edit.InstanceThere h = refl
  told-edit edit.Full h = refl
  told-edit (edit.NoInstance n) h =
      let known = known-of (length t) n h in
      rw (words-last (name_text t n) (is_run-name t n names known), name_of-text t n names known) refl
  told-edit edit.Constant h = refl
  told-edit edit.NoPredicate h = refl
  told-edit (edit.Arity want got) h =
      let parts = and_parts (is_long want) (is_long got) h in
      let first = long-of want parts.0 in
      let second = long-of got parts.1 in
      rw (words-both (decimal want) (decimal got) (is_run-decimal want first) (is_run-decimal got second), whole_number-decimal want first, whole_number-decimal got second) refl
  told-edit (edit.WrongType at) h = rw (word-long at h, whole_number-decimal at (long-of at h)) refl
  told-edit edit.NoFact h = refl
  told-edit edit.NoFunction h = refl
  told-edit edit.NoValue h = refl
  told-edit edit.NoGoal h = refl

  -- a step, and what is told of it
  step-words : (at : ℕ) (rest : List ℕ) → is_short at ≡ true → words (decimal at ++ 32 ∷ rest) ≡ decimal at ∷ words rest
  step-words at rest h =
      let small = short-of at h in
      words-then (decimal at) rest (is_run-decimal at (omega (arith, small)))

  told-ground : (at : ℕ) (r : GroundRefusal) → is_cause (length t) (refusal.Plan (plan.Ground at r)) ≡ true → told (refusal_text t (refusal.Plan (plan.Ground at r))) ≡ Some (refusal.Plan (plan.Ground at r))
  told-ground at ground.NoAction h =
      let parts = and_parts (is_short at) true h in
      rw (step-words at (codes "NoAction") parts.0, short-decimal at parts.0) refl
  told-ground at (ground.Arity want got) h =
      let parts = and_parts (is_short at) (is_long want && is_long got) h in
      let numbers = and_parts (is_long want) (is_long got) parts.1 in
      let first = long-of want numbers.0 in
      let second = long-of got numbers.1 in
      rw (
        step-words at (codes "Arity " ++ (decimal want ++ (codes " " ++ decimal got))) parts.0,
        short-decimal at parts.0,
        words-both (decimal want) (decimal got) (is_run-decimal want first) (is_run-decimal got second),
        whole_number-decimal want first,
        whole_number-decimal got second,
      ) refl
  told-ground at (ground.NoInstance n) h =
      let parts = and_parts (is_short at) (is_known (length t) n) h in
      let known = known-of (length t) n parts.1 in
      rw (step-words at (codes "NoInstance " ++ name_text t n) parts.0, short-decimal at parts.0, words-last (name_text t n) (is_run-name t n names known), name_of-text t n names known) refl
  told-ground at (ground.WrongType k) h =
      let parts = and_parts (is_short at) (is_long k) h in
      rw (step-words at (codes "WrongType " ++ decimal k) parts.0, short-decimal at parts.0, word-long k parts.1, whole_number-decimal k (long-of k parts.1)) refl

  told-start : (at : ℕ) (r : EffectRefusal) → is_cause (length t) (refusal.Plan (plan.StartEffect at r)) ≡ true → told (refusal_text t (refusal.Plan (plan.StartEffect at r))) ≡ Some (refusal.Plan (plan.StartEffect at r))
  told-start at (effect.Clash k) h =
      let parts = and_parts (is_short at) (is_long k) h in
      rw (step-words at (codes "StartEffect Clash " ++ decimal k) parts.0, short-decimal at parts.0, word-long k parts.1, whole_number-decimal k (long-of k parts.1)) refl
  told-start at (effect.Undefined k) h =
      let parts = and_parts (is_short at) (is_long k) h in
      rw (step-words at (codes "StartEffect Undefined " ++ decimal k) parts.0, short-decimal at parts.0, word-long k parts.1, whole_number-decimal k (long-of k parts.1)) refl
  told-start at (effect.Range k) h =
      let parts = and_parts (is_short at) (is_long k) h in
      rw (step-words at (codes "StartEffect Range " ++ decimal k) parts.0, short-decimal at parts.0, word-long k parts.1, whole_number-decimal k (long-of k parts.1)) refl

  told-end : (at : ℕ) (r : EffectRefusal) → is_cause (length t) (refusal.Plan (plan.EndEffect at r)) ≡ true → told (refusal_text t (refusal.Plan (plan.EndEffect at r))) ≡ Some (refusal.Plan (plan.EndEffect at r))
  told-end at (effect.Clash k) h =
      let parts = and_parts (is_short at) (is_long k) h in
      rw (step-words at (codes "EndEffect Clash " ++ decimal k) parts.0, short-decimal at parts.0, word-long k parts.1, whole_number-decimal k (long-of k parts.1)) refl
  told-end at (effect.Undefined k) h =
      let parts = and_parts (is_short at) (is_long k) h in
      rw (step-words at (codes "EndEffect Undefined " ++ decimal k) parts.0, short-decimal at parts.0, word-long k parts.1, whole_number-decimal k (long-of k parts.1)) refl
  told-end at (effect.Range k) h =
      let parts = and_parts (is_short at) (is_long k) h in
      rw (step-words at (codes "EndEffect Range " ++ decimal k) parts.0, short-decimal at parts.0, word-long k parts.1, whole_number-decimal k (long-of k parts.1)) refl

  told-plan : (r : PlanRefusal) → is_cause (length t) (refusal.Plan r) ≡ true → told (refusal_text t (refusal.Plan r)) ≡ Some (refusal.Plan r)
  told-plan plan.NoGoal h = refl
  told-plan (plan.Ground at r) h = told-ground at r h
  told-plan (plan.StartFalse at) h = rw (step-words at (codes "StartFalse") h, short-decimal at h) refl
  told-plan (plan.StartEffect at r) h = told-start at r h
  told-plan (plan.OverAllFalse at) h = rw (step-words at (codes "OverAllFalse") h, short-decimal at h) refl
  told-plan (plan.EndFalse at) h = rw (step-words at (codes "EndFalse") h, short-decimal at h) refl
  told-plan (plan.EndEffect at r) h = told-end at r h
  told-plan plan.GoalFalse h = refl

  told-text : (r : PlanTextRefusal) → is_cause (length t) (refusal.PlanText r) ≡ true → told (refusal_text t (refusal.PlanText r)) ≡ Some (refusal.PlanText r)
  told-text (plantext.Line n) h = rw (word-long n h, whole_number-decimal n (long-of n h)) refl
  told-text (plantext.Long n) h = rw (word-long n h, whole_number-decimal n (long-of n h)) refl

  told-no_action : (r : GroundRefusal) → is_cause (length t) (refusal.Ground r) ≡ true → told (refusal_text t (refusal.Ground r)) ≡ Some (refusal.Ground r)
  told-no_action ground.NoAction h = refl
  told-no_action (ground.Arity want got) h = absurd (cc)
  told-no_action (ground.NoInstance n) h = absurd (cc)
  told-no_action (ground.WrongType at) h = absurd (cc)

  -- a printed cause is told by its words
  pub told-cause : (why : Refusal) → is_cause (length t) why ≡ true → told (refusal_text t why) ≡ Some why
  told-cause (refusal.Line cause) h = told-line cause h
  told-cause (refusal.Edit r) h = told-edit r h
  told-cause (refusal.Ground r) h = told-no_action r h
  told-cause (refusal.Plan r) h = told-plan r h
  told-cause (refusal.PlanText r) h = told-text r h
  told-cause refusal.NoGoal h = absurd (cc)
  told-cause refusal.NoPlan h = refl
  told-cause (refusal.Spent depth) h = rw (word-short depth h, short-decimal depth h) refl
  told-cause refusal.TooMany h = refl
  told-cause refusal.NoRun h = refl
  told-cause refusal.NoPredicate h = absurd (cc)
  told-cause refusal.NoAction h = absurd (cc)
