-- Effects that are read are on what is declared.
use Rattle.std.proofs.Common.{ℕ, ◌+◌, All, List, [], ◌++◌, length, Option, Some, None, Ok, arith}
use Rattle.std.specs.Option.{option_map}
use Rattle.std.proofs.lemmas.List.Elements.{All-nil, All-push}
use Rattle.ps_world.specs.CondViews.{cond_tree}
use Rattle.ps_world.specs.Leaves.{AllIn}
use Rattle.ps_world.specs.declared.domains.Param.{Param}
use Rattle.ps_world.specs.declared.domains.Domain.{Domain}
use Rattle.ps_world.specs.declared.actions.ActionDef.{ActionDef}
use Rattle.ps_world.specs.declared.actions.Effect.{Effect}
use Rattle.ps_world.specs.declared.actions.Effect.TheVariants as effects
use Rattle.ps_world.specs.declared.actions.Guarded.{Guarded}
use Rattle.ps_world.specs.declared.actions.Guarded.TheVariants.{Plain, When}
use Rattle.ps_world.specs.declared.actions.NumOp.{NumOp}
use Rattle.ps_world.specs.declared.actions.Spread.{Spread}
use Rattle.ps_world.specs.declared.actions.Spread.TheVariants.{Once, ForAll}
use Rattle.ps_world.specs.declared.conditions.Cond.{Cond}
use Rattle.ps_grammar.specs.Marks.{is}
use Rattle.ps_grammar.specs.declared.marks.Mark.{Mark}
use Rattle.ps_grammar.specs.declared.marks.Mark.TheVariants as mark
use Rattle.ps_pddl.specs.Effects as effect
use Rattle.ps_lists.specs.Nested.{Nested, Nesteds, word, group, none, more}
use Rattle.ps_lists.specs.Places.{head, items, rest, word_of}
use Rattle.ps_conditions.specs.Conditions as meant
use Rattle.ps_conditions.specs.Steps.{◌>>=◌}
use Rattle.ps_pddl.specs.Steps.{Read, reads}
use Rattle.ps_pddl.specs.Terms.{fact, value_of}
use Rattle.ps_pddl.specs.Words.{scopes, value}
use Rattle.ps_pddl.specs.WellFormed.{AreCounted, AreTyped, IsCounted, IsEffect, IsFactOf, IsGuarded, IsSpread, IsValueOf, declared_leaves}
use Rattle.ps_lists.specs.declared.lexemes.Lexeme.{Lexeme}
use Rattle.ps_world.specs.declared.actions.Effects.{Effects}
use Rattle.ps_pddl.proofs.Sound.{Sound, Fits, then_sound, either_sound}
use Rattle.ps_pddl.proofs.SoundConditions.{binding_sound, condition_sound}
use Rattle.ps_pddl.proofs.SoundTerms.{acting, IsValue, fact_sound, value_of_sound, value_sound}

-- ---- flat effects

module _ (d : Domain) (acts : List ActionDef) (ps : List Param) where
  abbrev IsFlat : Effect → Type 0
  IsFlat e = IsEffect (acting d acts) ps e

  added_sound : (l : Lexeme) (ts : Nesteds) → Sound (Fits IsFlat) (effect.added d ps l ts)
  added_sound l ts = then_sound (IsFactOf (acting d acts) ps) (Fits IsFlat) (fact d ps l ts) (λ f. Ok (Some (effects.Add f))) (fact_sound d acts ps l ts) (λ f one. one)

  deleted_sound : (a : Nested) → Sound (Fits IsFlat) (effect.deleted d ps a)
  deleted_sound a =
      then_sound (IsFactOf (acting d acts) ps) (Fits IsFlat) (fact d ps (head (items a)) (rest (items a))) (λ f. Ok (Some (effects.Delete f))) (fact_sound d acts ps (head (items a)) (rest (items a))) (λ f one. one)

  changed_sound : (how : NumOp) (a x : Nested) → IsCounted x → Sound (Fits IsFlat) (effect.changed d ps how a x)
  changed_sound how a x h =
      then_sound (IsValueOf (acting d acts) ps) (Fits IsFlat) (value_of d ps (head (items a)) (rest (items a))) (λ l. value d ps x >>= λ v. Ok (Some (effects.Number how l v))) (value_of_sound d acts ps (head (items a)) (rest (items a)))
      (λ l one. then_sound (IsValue d acts ps) (Fits IsFlat) (value d ps x) (λ v. Ok (Some (effects.Number how l v))) (value_sound d acts ps x h) (λ v two. (one, two)))

  changed_or_sound : (how : Option NumOp) (a x : Nested) (other : Read (Option Effect)) → IsCounted x → Sound (Fits IsFlat) other → Sound (Fits IsFlat) (effect.changed_or d ps how a x other)
  changed_or_sound None a x other h o = o
  changed_or_sound (Some how) a x other h o = changed_sound how a x h

  plain_effect_sound : (l : Lexeme) (ts : Nesteds) → AreCounted ts → Sound (Fits IsFlat) (effect.plain_effect d ps l ts)
  plain_effect_sound l none h = added_sound l none
  plain_effect_sound l (more a none) h = added_sound l (more a none)
  plain_effect_sound l (more a (more x ts)) h =
      changed_or_sound (effect.change_of l.mark) a x (effect.added d ps l (more a (more x ts))) h.1.0 (added_sound l (more a (more x ts)))

  deletion_sound : (ts : Nesteds) → Sound (Fits IsFlat) (effect.deletion d ps ts)
  deletion_sound none = tt
  deletion_sound (more a ts) = deleted_sound a

  flat_one_sound : (l : Lexeme) (ts : Nesteds) → AreCounted ts → Sound (Fits IsFlat) (effect.flat_one d ps l ts)
  flat_one_sound l ts h =
      either_sound (Fits IsFlat) (is mark.Not l.mark) (effect.deletion d ps ts) (effect.plain_effect d ps l ts) (λ e. deletion_sound ts) (λ e. plain_effect_sound l ts h)

-- ---- lists of effects

pub followed_so : {A : Type 0} (P : A → Type 0) (before : List A) (x : Option A) → All P before → Fits P x → All P (effect.followed_by before x)
followed_so P before None k h = k
followed_so P before (Some x) k h = All-push P before x k h

module _ {A : Type 0} (P : A → Type 0) (one : Lexeme → Nesteds → Read (Option A)) (sound : (l : Lexeme) (ts : Nesteds) → AreCounted ts → Sound (Fits P) (one l ts)) where
  mutual
    flattened_sound : (t : Nested) (before : List A) → IsCounted t → All P before → Sound (All P) (effect.flattened one t before)
    flattened_sound (word l) before h k = k
    flattened_sound (group ts) before h k = flattened_form_sound ts before h k

    flattened_form_sound : (ts : Nesteds) (before : List A) → AreCounted ts → All P before → Sound (All P) (effect.flattened_form one ts before)
    flattened_form_sound none before h k = k
    flattened_form_sound (more f ts) before h k =
        either_sound (All P) (is mark.And (word_of f).mark) (effect.all_flattened one ts before) (one (word_of f) ts >>= λ x. Ok (effect.followed_by before x))
        (λ e. all_flattened_sound ts before h.1 k)
        (λ e. then_sound (Fits P) (All P) (one (word_of f) ts) (λ x. Ok (effect.followed_by before x)) (sound (word_of f) ts h.1) (λ x own. followed_so P before x k own))

    all_flattened_sound : (ts : Nesteds) (before : List A) → AreCounted ts → All P before → Sound (All P) (effect.all_flattened one ts before)
    all_flattened_sound none before h k = k
    all_flattened_sound (more t ts) before h k =
        then_sound (All P) (All P) (effect.flattened one t before) (λ x. effect.all_flattened one ts x) (flattened_sound t before h.0 k) (λ x own. all_flattened_sound ts x h.1 own)

-- ---- effects with their conditions

pub made_so : {A B : Type 0} (P : A → Type 0) (Q : B → Type 0) (f : A → B) (o : Option A) → ((x : A) → P x → Q (f x)) → Fits P o → Fits Q (option_map f o)
made_so P Q f None k h = tt
made_so P Q f (Some x) k h = k x h

module _ (d : Domain) (acts : List ActionDef) (own : ℕ) (ps : List Param) (typed : AreTyped (acting d acts) (own + 2) ps) where
  abbrev IsHere : Guarded → Type 0
  IsHere g = IsGuarded (acting d acts) own ps g

  conditional_sound : (ts : Nesteds) → AreCounted ts → Sound (Fits IsHere) (effect.conditional d own ps ts)
  conditional_sound none h = tt
  conditional_sound (more c none) h = tt
  conditional_sound (more c (more e ts)) h =
      let IsHeld : Cond → Type 0 = λ x. AllIn (declared_leaves (acting d acts) own) ps (cond_tree x) in
      let IsFlatHere : Effect → Type 0 = λ x. IsEffect (acting d acts) ps x in
      then_sound IsHeld (Fits IsHere) (meant.condition reads (scopes d own) ps c) (λ x. effect.flat d ps e >>= λ es. Ok (Some (When x es))) (condition_sound d acts own ps typed c h.0)
      (λ x held. then_sound (All IsFlatHere) (Fits IsHere) (effect.flat d ps e) (λ es. Ok (Some (When x es)))
      (flattened_sound IsFlatHere (effect.flat_one d ps) (flat_one_sound d acts ps) e [] h.1.0 (All-nil IsFlatHere)) (λ es all. (held, all)))

  guarded_one_sound : (l : Lexeme) (ts : Nesteds) → AreCounted ts → Sound (Fits IsHere) (effect.guarded_one d own ps l ts)
  guarded_one_sound l ts h =
      let IsFlatHere : Effect → Type 0 = λ x. IsEffect (acting d acts) ps x in
      either_sound (Fits IsHere) (is mark.When l.mark) (effect.conditional d own ps ts) (effect.flat_one d ps l ts >>= λ e. Ok (option_map Plain e))
      (λ e. conditional_sound ts h)
      (λ e. then_sound (Fits IsFlatHere) (Fits IsHere) (effect.flat_one d ps l ts) (λ e. Ok (option_map Plain e)) (flat_one_sound d acts ps l ts h) (λ x own. made_so IsFlatHere IsHere Plain x (λ y k. k) own))

-- ---- effects for each choice of a variable

module _ (d : Domain) (acts : List ActionDef) (ps : List Param) (typed : AreTyped (acting d acts) 6 ps) where
  abbrev IsSpreadHere : Spread → Type 0
  IsSpreadHere s = IsSpread (acting d acts) ps s

  abbrev AreEffects : List Spread → Type 0
  AreEffects es = All IsSpreadHere es

  for_each_sound : (ts : Nesteds) → AreCounted ts → Sound (Fits IsSpreadHere) (effect.for_each d ps ts)
  for_each_sound none h = tt
  for_each_sound (more vs none) h = tt
  for_each_sound (more vs (more e ts)) h =
      let AreBound : List Param → Type 0 = λ qs. AreTyped (acting d acts) (length ps + 1) (ps ++ qs) in
      let IsPart : List Param → Guarded → Type 0 = λ qs g. IsGuarded (acting d acts) (length ps) (ps ++ qs) g in
      then_sound AreBound (Fits IsSpreadHere) (effect.bound_once d ps (items vs)) (λ qs. effect.guarded d (length ps) (ps ++ qs) e >>= λ gs. Ok (Some (ForAll qs gs)))
      (binding_sound d acts (length ps + 1) ps (items vs) (record { few = omega arith; apart = typed.apart; kinds = typed.kinds }))
      (λ qs below.
      let few = below.few in
      then_sound (All (IsPart qs)) (Fits IsSpreadHere) (effect.guarded d (length ps) (ps ++ qs) e) (λ gs. Ok (Some (ForAll qs gs)))
      (flattened_sound (IsPart qs) (effect.guarded_one d (length ps) (ps ++ qs)) (guarded_one_sound d acts (length ps) (ps ++ qs) (record { few = omega (arith, few); apart = below.apart; kinds = below.kinds })) e [] h.1.0 (All-nil (IsPart qs)))
      (λ gs all. (below, all)))

  spread_one_sound : (l : Lexeme) (ts : Nesteds) → AreCounted ts → Sound (Fits IsSpreadHere) (effect.spread_one d ps l ts)
  spread_one_sound l ts h =
      let IsOnce : Guarded → Type 0 = λ g. IsGuarded (acting d acts) (length ps) ps g in
      either_sound (Fits IsSpreadHere) (is mark.Forall l.mark) (effect.for_each d ps ts) (effect.guarded_one d (length ps) ps l ts >>= λ g. Ok (option_map Once g))
      (λ e. for_each_sound ts h)
      (λ e. then_sound (Fits IsOnce) (Fits IsSpreadHere) (effect.guarded_one d (length ps) ps l ts) (λ g. Ok (option_map Once g))
      (guarded_one_sound d acts (length ps) ps (record { few = omega arith; apart = typed.apart; kinds = typed.kinds }) l ts h) (λ x own. made_so IsOnce IsSpreadHere Once x (λ y k. k) own))

  effect_sound : (t : Nested) (before : List Spread) → IsCounted t → AreEffects before → Sound AreEffects (effect.effect d ps t before)
  effect_sound t before h k = flattened_sound IsSpreadHere (effect.spread_one d ps) spread_one_sound t before h k

  -- ---- the parts of an action's effect

  abbrev pub AreChanges : Effects → Type 0
  AreChanges changes = AreEffects changes.at_start × AreEffects changes.at_end

  at_time_sound : (moment : Mark) (t : Nested) (changes : Effects) → IsCounted t → AreChanges changes → Sound AreChanges (effect.at_time d ps moment t changes)
  at_time_sound mark.Start t changes h k =
      then_sound AreEffects AreChanges (effect.effect d ps t changes.at_start) (λ es. Ok (effect.at_start changes es)) (effect_sound t changes.at_start h k.0) (λ es one. (one, k.1))
  at_time_sound m t changes h k =
      then_sound AreEffects AreChanges (effect.effect d ps t changes.at_end) (λ es. Ok (effect.at_end changes es)) (effect_sound t changes.at_end h k.1) (λ es one. (k.0, one))

  timed_part_sound : (m moment : Mark) (t : Nested) (changes : Effects) → IsCounted t → AreChanges changes → Sound AreChanges (effect.timed_part d ps m moment t changes)
  timed_part_sound mark.At moment t changes h k = at_time_sound moment t changes h k
  timed_part_sound m moment t changes h k = k

  timed_form_sound : (l : Lexeme) (ts : Nesteds) (changes : Effects) → AreCounted ts → AreChanges changes → Sound AreChanges (effect.timed_form d ps l ts changes)
  timed_form_sound l none changes h k = k
  timed_form_sound l (more moment none) changes h k = k
  timed_form_sound l (more moment (more t ts)) changes h k = timed_part_sound l.mark (word_of moment).mark t changes h.1.0 k

  mutual
    pub changes_sound : (t : Nested) (changes : Effects) → IsCounted t → AreChanges changes → Sound AreChanges (effect.timed d ps t changes)
    changes_sound (word l) changes h k = k
    changes_sound (group ts) changes h k = change_list_sound ts changes h k

    change_list_sound : (ts : Nesteds) (changes : Effects) → AreCounted ts → AreChanges changes → Sound AreChanges (effect.timed_list d ps ts changes)
    change_list_sound none changes h k = k
    change_list_sound (more f ts) changes h k =
        either_sound AreChanges (is mark.And (word_of f).mark) (effect.all_timed d ps ts changes) (effect.timed_form d ps (word_of f) ts changes)
        (λ e. all_changes_sound ts changes h.1 k) (λ e. timed_form_sound (word_of f) ts changes h.1 k)

    all_changes_sound : (ts : Nesteds) (changes : Effects) → AreCounted ts → AreChanges changes → Sound AreChanges (effect.all_timed d ps ts changes)
    all_changes_sound none changes h k = k
    all_changes_sound (more t ts) changes h k =
        then_sound AreChanges AreChanges (effect.timed d ps t changes) (λ x. effect.all_timed d ps ts x) (changes_sound t changes h.0 k) (λ x one. all_changes_sound ts x h.1 one)
