-- Effects that are read: their names stand in the table, their heads may stand there, and they have as few levels as their lists.
use Rattle.std.proofs.Common.{◌≡◌, ◌+◌, ℕ, suc, zero, ◌<◌, ◌≤◌, true, false, All, List, [], ◌++◌, length, Option, Some, None, Ok, refl, ap, subst, arith}
use Rattle.std.specs.Option.{option_map}
use Rattle.std.proofs.lemmas.List.Elements.{All-nil, All-weaker}
use Rattle.ps_world.specs.CondViews.{cond_tree}
use Rattle.ps_world.specs.ExprViews.{expr_tree}
use Rattle.ps_world.specs.Names.{Table}
use Rattle.ps_world.specs.declared.domains.Param.{Param}
use Rattle.ps_world.specs.declared.domains.Domain.{Domain}
use Rattle.ps_world.specs.declared.schemas.Lifted.{Lifted}
use Rattle.ps_world.specs.declared.conditions.Cond.{Cond}
use Rattle.ps_world.specs.declared.actions.Effect.{Effect}
use Rattle.ps_world.specs.declared.actions.Effect.TheVariants as effects
use Rattle.ps_world.specs.declared.actions.Guarded.{Guarded}
use Rattle.ps_world.specs.declared.actions.Guarded.TheVariants.{Plain, When}
use Rattle.ps_world.specs.declared.actions.Spread.{Spread}
use Rattle.ps_world.specs.declared.actions.Spread.TheVariants.{Once, ForAll}
use Rattle.ps_world.specs.declared.actions.NumOp.{NumOp}
use Rattle.ps_grammar.specs.Marks.{is, is_change, is_predicate_name}
use Rattle.ps_grammar.specs.declared.marks.Mark.{Mark}
use Rattle.ps_grammar.specs.declared.marks.Mark.TheVariants as mark
use Rattle.ps_grammar.specs.declared.symbols.Reach.{Reach}
use Rattle.ps_grammar.specs.declared.symbols.Reach.TheVariants as the
use Rattle.ps_lists.specs.Conditions as written
use Rattle.ps_lists.specs.Grammar.{IsAtom, IsValue, IsCondition, IsEffect, IsOneEffect, AreEffectsOf, IsBody, IsTimedEffect, IsChange, AreChanges, IsEffectForm}
use Rattle.ps_lists.specs.Grammar as grammar
use Rattle.ps_lists.specs.TypedLists.{IsTypedList, is_variable}
use Rattle.ps_lists.specs.Nested.{Nested, Nesteds, word, group, none, more}
use Rattle.ps_lists.specs.declared.lexemes.Lexeme.{Lexeme}
use Rattle.ps_print.specs.CanonicalWords.{IsEffectOf, IsGuardedOf, IsSpreadOf}
use Rattle.ps_pddl.specs.Effects as effect
use Rattle.ps_conditions.specs.Conditions as meant
use Rattle.ps_conditions.specs.Steps.{◌>>=◌}
use Rattle.ps_pddl.specs.Steps.{Read, reads}
use Rattle.ps_pddl.specs.Terms.{fact, value_of}
use Rattle.ps_pddl.specs.Words.{scopes, value}
use Rattle.ps_world.specs.declared.actions.Effects.{Effects}
use Rattle.ps_pddl.proofs.CanonicalForms.{name_mark}
use Rattle.ps_pddl.proofs.Fits.{FitsEffect, fits_addition, fits_deletion, fits_change, FitsGuarded, fits_plain, fits_when, FitsSpread, fits_once, fits_for_each}
use Rattle.ps_pddl.proofs.ReadConditions.{IsTreeHere, both_here, cond_fits_more, condition_here, expr_fits_more}
use Rattle.ps_pddl.proofs.ReadLists.{AreParamsHere, binding_here}
use Rattle.ps_pddl.proofs.ReadMarks.{change_there, no_sound, predicate-is_name, yes_sound}
use Rattle.ps_pddl.proofs.ReadNames.{IsTold, AllTold, AreTold}
use Rattle.ps_pddl.proofs.ReadValues.{IsHeadHere, IsValueHere, fact_here, value_here, value_of_here}
use Rattle.ps_pddl.proofs.Sound.{Sound, Fits, either_sound, then_sound}
use Rattle.ps_pddl.proofs.SoundEffects.{followed_so, made_so}
use Rattle.ps_pddl.proofs.MeanMarks.{isnt-by, change_of-predicate}

-- ---- more levels

effect_fits_more : (names : Table) (room most : ℕ) (e : Effect) → FitsEffect names room e → room ≤ most → FitsEffect names most e
effect_fits_more names _ zero _ (fits_addition room f h) le = absurd (omega (arith, le))
effect_fits_more names _ (suc most) _ (fits_addition room f h) le = fits_addition most f h
effect_fits_more names _ zero _ (fits_deletion room f) le = absurd (omega (arith, le))
effect_fits_more names _ (suc zero) _ (fits_deletion room f) le = absurd (omega (arith, le))
effect_fits_more names _ (suc (suc most)) _ (fits_deletion room f) le = fits_deletion most f
effect_fits_more names _ zero _ (fits_change room how f x h) le = absurd (omega (arith, le))
effect_fits_more names _ (suc zero) _ (fits_change room how f x h) le = absurd (omega (arith, le))
effect_fits_more names _ (suc (suc most)) _ (fits_change room how f x h) le = fits_change most how f x (expr_fits_more (suc room) (suc most) (expr_tree x) h (omega (arith, le)))

guarded_fits_more : (names : Table) (room most : ℕ) (g : Guarded) → FitsGuarded names room g → room ≤ most → FitsGuarded names most g
guarded_fits_more names _ most _ (fits_plain room e h) le = fits_plain most e (effect_fits_more names room most e h le)
guarded_fits_more names _ zero _ (fits_when room c es h hs) le = absurd (omega (arith, le))
guarded_fits_more names _ (suc zero) _ (fits_when room c es h hs) le = absurd (omega (arith, le))
guarded_fits_more names _ (suc (suc most)) _ (fits_when room c es h hs) le =
    fits_when most c es (cond_fits_more names (suc room) (suc most) (cond_tree c) h (omega (arith, le)))
    (All-weaker (FitsEffect names room) (FitsEffect names most) (λ e k. effect_fits_more names room most e k (omega (arith, le))) es hs)

spread_fits_more : (names : Table) (room most : ℕ) (s : Spread) → FitsSpread names room s → room ≤ most → FitsSpread names most s
spread_fits_more names _ most _ (fits_once room g h) le = fits_once most g (guarded_fits_more names room most g h le)
spread_fits_more names _ zero _ (fits_for_each room qs gs free hs) le = absurd (omega (arith, le))
spread_fits_more names _ (suc zero) _ (fits_for_each room qs gs free hs) le = absurd (omega (arith, le))
spread_fits_more names _ (suc (suc most)) _ (fits_for_each room qs gs free hs) le =
    fits_for_each most qs gs free (All-weaker (FitsGuarded names room) (FitsGuarded names most) (λ g k. guarded_fits_more names room most g k (omega (arith, le))) gs hs)

-- ---- lists of effects

module _ {A : Type 0} (P : A → Type 0) (one : Lexeme → Nesteds → Read (Option A)) (after : Table) (reach : Reach) (most : ℕ)
    (here : (room : ℕ) (l : Lexeme) (ts : Nesteds) → IsOneEffect reach room (group (more (word l) ts)) → room ≤ most → IsTold after l → AreTold after ts → Sound (Fits P) (one l ts)) where
  headed_here : (room : ℕ) (l : Lexeme) (ts : Nesteds) (before : List A) → is mark.And l.mark ≡ false → IsOneEffect reach room (group (more (word l) ts)) → room ≤ most → AllTold after (group (more (word l) ts)) → All P before → Sound (All P) (effect.flattened one (group (more (word l) ts)) before)
  headed_here room l ts before m own le h all =
      no_sound (All P) (is mark.And l.mark) (effect.all_flattened one ts before) (one l ts >>= λ x. Ok (effect.followed_by before x)) m
      (then_sound (Fits P) (All P) (one l ts) (λ x. Ok (effect.followed_by before x)) (here room l ts own le h.0 h.1) (λ x k. followed_so P before x all k))

  single_here : (room : ℕ) (t : Nested) (before : List A) → IsOneEffect reach room t → room ≤ most → AllTold after t → All P before → Sound (All P) (effect.flattened one t before)
  single_here _ _ before (grammar.addition _ room l ts m r) le h all =
      headed_here (suc room) l ts before (isnt-by is_predicate_name mark.And l.mark m refl) (grammar.addition reach room l ts m r) le h all
  single_here _ _ before (grammar.deletion _ room l a m r) le h all =
      headed_here (suc room) l (more a none) before (ap (is mark.And) m) (grammar.deletion reach room l a m r) le h all
  single_here _ _ before (grammar.change _ room l a x m r v) le h all =
      headed_here (suc room) l (more a (more x none)) before (isnt-by is_change mark.And l.mark m refl) (grammar.change reach room l a x m r v) le h all
  single_here _ _ before (grammar.conditional _ room l c t has m r b) le h all =
      headed_here (suc room) l (more c (more t none)) before (ap (is mark.And) m) (grammar.conditional reach room l c t has m r b) le h all
  single_here _ _ before (grammar.for_each _ room l vs t has m r b) le h all =
      headed_here (suc room) l (more (group vs) (more t none)) before (ap (is mark.And) m) (grammar.for_each reach room l vs t has m r b) le h all

  -- several, by the head of their list
  listed_here : (l : Lexeme) (ts : Nesteds) (before : List A) → l.mark ≡ mark.And → Sound (All P) (effect.all_flattened one ts before) → Sound (All P) (effect.flattened one (group (more (word l) ts)) before)
  listed_here l ts before m h = yes_sound (All P) (is mark.And l.mark) (effect.all_flattened one ts before) (one l ts >>= λ x. Ok (effect.followed_by before x)) (ap (is mark.And) m) h

  mutual
    flattened_here : (room : ℕ) (t : Nested) (before : List A) → grammar.IsEffectOf reach room t → room ≤ most → AllTold after t → All P before → Sound (All P) (effect.flattened one t before)
    flattened_here _ _ before (grammar.all_effects _ room l ts m es) le h all = listed_here l ts before m (all_flattened_here room ts before es (omega (arith, le)) h.1 all)
    flattened_here _ _ before (grammar.single _ room t own) le h all = single_here room t before own le h all

    all_flattened_here : (room : ℕ) (ts : Nesteds) (before : List A) → AreEffectsOf reach room ts → room ≤ most → AreTold after ts → All P before → Sound (All P) (effect.all_flattened one ts before)
    all_flattened_here _ _ before (grammar.no_effect _ room) le h all = all
    all_flattened_here _ _ before (grammar.one_effect _ room t ts own r) le h all =
        then_sound (All P) (All P) (effect.flattened one t before) (λ x. effect.all_flattened one ts x) (flattened_here room t before own le h.0 all) (λ x k. all_flattened_here room ts x r le h.1 k)

  -- a body, whose effects have one level less
  body_here : (room : ℕ) (t : Nested) → IsBody reach (suc room) t → room ≤ most → AllTold after t → Sound (All P) (effect.flattened one t [])
  body_here room _ (grammar.listed_body _ _ l ts m es) le h = listed_here l ts [] m (all_flattened_here room ts [] es le h.1 (All-nil P))
  body_here room _ (grammar.lone_body _ _ t own) le h = single_here room t [] own le h (All-nil P)

-- a body has a level of its own
body_level : (reach : Reach) (room : ℕ) (t : Nested) → IsBody reach room t → room ≡ zero → ⊥
body_level _ _ _ (grammar.listed_body reach room l ts m es) e = absurd (cc)
body_level _ _ _ (grammar.lone_body reach room t own) e = absurd (cc)

-- in a `when` no head is `when` or `forall`
plain_apart : (room : ℕ) (l : Lexeme) (ts : Nesteds) → IsOneEffect the.Plain room (group (more (word l) ts)) → (is mark.When l.mark ≡ false) × (is mark.Forall l.mark ≡ false)
plain_apart _ _ _ (grammar.addition _ room l ts m r) = (isnt-by is_predicate_name mark.When l.mark m refl, isnt-by is_predicate_name mark.Forall l.mark m refl)
plain_apart _ _ _ (grammar.deletion _ room l a m one) = (ap (is mark.When) m, ap (is mark.Forall) m)
plain_apart _ _ _ (grammar.change _ room l a x m one v) = (isnt-by is_change mark.When l.mark m refl, isnt-by is_change mark.Forall l.mark m refl)
plain_apart _ _ _ (grammar.conditional _ room l c t has m one b) = absurd (cc)
plain_apart _ _ _ (grammar.for_each _ room l vs t has m typed b) = absurd (cc)

-- in a `forall` none is `forall`
guarded_apart : (room : ℕ) (l : Lexeme) (ts : Nesteds) → IsOneEffect the.Guarded room (group (more (word l) ts)) → is mark.Forall l.mark ≡ false
guarded_apart _ _ _ (grammar.addition _ room l ts m r) = isnt-by is_predicate_name mark.Forall l.mark m refl
guarded_apart _ _ _ (grammar.deletion _ room l a m one) = ap (is mark.Forall) m
guarded_apart _ _ _ (grammar.change _ room l a x m one v) = isnt-by is_change mark.Forall l.mark m refl
guarded_apart _ _ _ (grammar.conditional _ room l c t has m one b) = ap (is mark.Forall) m
guarded_apart _ _ _ (grammar.for_each _ room l vs t has m typed b) = absurd (cc)

module _ (after : Table) (first : 0 < length after) (d : Domain) where
  -- ---- flat effects

  module _ (ps : List Param) (most : ℕ) where
    -- an effect on what is there, with at most so many levels
    abbrev IsFlatHere : Effect → Type 0
    IsFlatHere e = IsEffectOf (length after) (length ps) e × FitsEffect after most e

    -- the head of an addition may stand there
    head_fits : (l : Lexeme) (f : Lifted) → is_predicate_name l.mark ≡ true → IsTold after l → f.head ≡ l.name → is_predicate_name (name_mark after f.head) ≡ true
    head_fits l f m h e = rw e (subst (λ (x : Mark). is_predicate_name x ≡ true) (h.named (predicate-is_name l.mark m)) m)

    added_here : (room : ℕ) (l : Lexeme) (ts : Nesteds) → suc room ≤ most → is_predicate_name l.mark ≡ true → IsTold after l → AreTold after ts → Sound (Fits IsFlatHere) (effect.added d ps l ts)
    added_here room l ts le m h k =
        then_sound (IsHeadHere after first d ps l) (Fits IsFlatHere) (fact d ps l ts) (λ f. Ok (Some (effects.Add f))) (fact_here after first d ps l ts h.below k)
        (λ f one. (one.1, effect_fits_more after (suc room) most (effects.Add f) (fits_addition room f (head_fits l f m h one.0)) le))

    deleted_here : (room : ℕ) (a : Nested) → suc room ≤ most → IsAtom room a → AllTold after a → Sound (Fits IsFlatHere) (effect.deleted d ps a)
    deleted_here _ _ le (written.atom room l ts m r few) h =
        then_sound (IsHeadHere after first d ps l) (Fits IsFlatHere) (fact d ps l ts) (λ f. Ok (Some (effects.Delete f))) (fact_here after first d ps l ts h.0.below h.1)
        (λ f one. (one.1, effect_fits_more after (suc (suc room)) most (effects.Delete f) (fits_deletion room f) le))

    changed_here : (room : ℕ) (how : NumOp) (a x : Nested) → suc room ≤ most → IsAtom room a → IsValue room x → AllTold after a → AllTold after x → Sound (Fits IsFlatHere) (effect.changed d ps how a x)
    changed_here _ how _ x le (written.atom room l ts m r few) v h k =
        then_sound (IsHeadHere after first d ps l) (Fits IsFlatHere) (value_of d ps l ts) (λ f. value d ps x >>= λ y. Ok (Some (effects.Number how f y))) (value_of_here after first d ps l ts h.0.below h.1)
        (λ f one. then_sound (IsValueHere after first d ps (suc room)) (Fits IsFlatHere) (value d ps x) (λ y. Ok (Some (effects.Number how f y))) (value_here after first d ps (suc room) x v k)
        (λ y two. ((one.1, two.0), effect_fits_more after (suc (suc room)) most (effects.Number how f y) (fits_change room how f y two.1) le)))

    unchanged_here : (how : Option NumOp) (a x : Nested) (other : Read (Option Effect)) → how ≡ None → Sound (Fits IsFlatHere) other → Sound (Fits IsFlatHere) (effect.changed_or d ps how a x other)
    unchanged_here None a x other e o = o
    unchanged_here (Some how) a x other e o = absurd (cc)

    changed_or_here : (room : ℕ) (how : Option NumOp) (a x : Nested) (other : Read (Option Effect)) → (how ≡ None → ⊥) → suc room ≤ most → IsAtom room a → IsValue room x → AllTold after a → AllTold after x → Sound (Fits IsFlatHere) (effect.changed_or d ps how a x other)
    changed_or_here room None a x other there le one v h k = absurd (there refl)
    changed_or_here room (Some how) a x other there le one v h k = changed_here room how a x le one v h k

    plain_here : (room : ℕ) (l : Lexeme) (ts : Nesteds) → suc room ≤ most → is_predicate_name l.mark ≡ true → IsTold after l → AreTold after ts → Sound (Fits IsFlatHere) (effect.plain_effect d ps l ts)
    plain_here room l none le m h k = added_here room l none le m h k
    plain_here room l (more a none) le m h k = added_here room l (more a none) le m h k
    plain_here room l (more a (more x ts)) le m h k =
        unchanged_here (effect.change_of l.mark) a x (effect.added d ps l (more a (more x ts))) (change_of-predicate l.mark m) (added_here room l (more a (more x ts)) le m h k)

    -- an effect whose head is neither `when` nor `forall`
    flat_here : (reach : Reach) (room : ℕ) (l : Lexeme) (ts : Nesteds) → is mark.When l.mark ≡ false → is mark.Forall l.mark ≡ false → IsOneEffect reach room (group (more (word l) ts)) → room ≤ most → IsTold after l → AreTold after ts → Sound (Fits IsFlatHere) (effect.flat_one d ps l ts)
    flat_here _ _ _ _ w f (grammar.addition reach room l ts m r) le h k =
        no_sound (Fits IsFlatHere) (is mark.Not l.mark) (effect.deletion d ps ts) (effect.plain_effect d ps l ts) (isnt-by is_predicate_name mark.Not l.mark m refl) (plain_here room l ts le m h k)
    flat_here _ _ _ _ w f (grammar.deletion reach room l a m one) le h k =
        yes_sound (Fits IsFlatHere) (is mark.Not l.mark) (effect.deletion d ps (more a none)) (effect.plain_effect d ps l (more a none)) (ap (is mark.Not) m) (deleted_here room a le one k.0)
    flat_here _ _ _ _ w f (grammar.change reach room l a x m one v) le h k =
        no_sound (Fits IsFlatHere) (is mark.Not l.mark) (effect.deletion d ps (more a (more x none))) (effect.plain_effect d ps l (more a (more x none))) (isnt-by is_change mark.Not l.mark m refl)
        (changed_or_here room (effect.change_of l.mark) a x (effect.added d ps l (more a (more x none))) (change_there l.mark m) le one v k.0 k.1.0)
    flat_here _ _ _ _ w f (grammar.conditional reach room l c t has m one b) le h k =
        let no : is mark.When l.mark ≡ true = ap (is mark.When) m in
        absurd (cc)
    flat_here _ _ _ _ w f (grammar.for_each reach room l vs t has m typed b) le h k =
        let no : is mark.Forall l.mark ≡ true = ap (is mark.Forall) m in
        absurd (cc)

  -- ---- effects with their conditions, in an action with so many parameters

  module _ (own : ℕ) (ps : List Param) (params : AreParamsHere after first ps) (most : ℕ) where
    abbrev IsGuardedHere : Guarded → Type 0
    IsGuardedHere g = IsGuardedOf (length after) ps g × FitsGuarded after most g

    -- a condition and a body
    conditional_here : (room : ℕ) (c t : Nested) → suc room ≤ most → IsCondition room c → IsBody the.Plain room t → AllTold after c → AllTold after t → Sound (Fits IsGuardedHere) (effect.conditional d own ps (more c (more t none)))
    conditional_here zero c t le one b h k = absurd (body_level the.Plain zero t b refl)
    conditional_here (suc room) c t le one b h k =
        let IsHeld : Cond → Type 0 = λ x. IsTreeHere after first d ps (suc room) (cond_tree x) in
        let IsPart : Effect → Type 0 = λ e. IsFlatHere ps room e in
        let IsAct : Effect → Type 0 = λ e. IsEffectOf (length after) (length ps) e in
        then_sound IsHeld (Fits IsGuardedHere) (meant.condition reads (scopes d own) ps c) (λ x. effect.flat d ps t >>= λ es. Ok (Some (When x es))) (condition_here after first d own ps params (suc room) c one h)
        (λ x held. then_sound (All IsPart) (Fits IsGuardedHere) (effect.flat d ps t) (λ es. Ok (Some (When x es)))
        (body_here IsPart (effect.flat_one d ps) after the.Plain room
        (λ level l ts alone le_here told tolds. let apart = plain_apart level l ts alone in flat_here ps room the.Plain level l ts apart.0 apart.1 alone le_here told tolds)
        room t b (omega arith) k)
        (λ es all. (
          (held.0, All-weaker IsPart IsAct (λ e p. p.0) es all),
          guarded_fits_more after (suc (suc room)) most (When x es) (fits_when room x es held.1 (All-weaker IsPart (FitsEffect after room) (λ e p. p.1) es all)) le,
        )))

    -- an effect whose head is `when`
    when_here : (reach : Reach) (room : ℕ) (l : Lexeme) (ts : Nesteds) → is mark.When l.mark ≡ true → IsOneEffect reach room (group (more (word l) ts)) → room ≤ most → AreTold after ts → Sound (Fits IsGuardedHere) (effect.conditional d own ps ts)
    when_here _ _ _ _ w (grammar.addition reach room l ts m r) le k =
        let no : is mark.When l.mark ≡ false = isnt-by is_predicate_name mark.When l.mark m refl in
        absurd (cc)
    when_here _ _ _ _ w (grammar.deletion reach room l a m one) le k =
        let no : is mark.When l.mark ≡ false = ap (is mark.When) m in
        absurd (cc)
    when_here _ _ _ _ w (grammar.change reach room l a x m one v) le k =
        let no : is mark.When l.mark ≡ false = isnt-by is_change mark.When l.mark m refl in
        absurd (cc)
    when_here _ _ _ _ w (grammar.conditional reach room l c t has m one b) le k = conditional_here room c t le one b k.0 k.1.0
    when_here _ _ _ _ w (grammar.for_each reach room l vs t has m typed b) le k =
        let no : is mark.When l.mark ≡ false = ap (is mark.When) m in
        absurd (cc)

    -- an effect whose head isn't `forall`
    guarded_here : (reach : Reach) (room : ℕ) (l : Lexeme) (ts : Nesteds) → is mark.Forall l.mark ≡ false → IsOneEffect reach room (group (more (word l) ts)) → room ≤ most → IsTold after l → AreTold after ts → Sound (Fits IsGuardedHere) (effect.guarded_one d own ps l ts)
    guarded_here reach room l ts f one le h k =
        let IsPart : Effect → Type 0 = λ e. IsFlatHere ps most e in
        either_sound (Fits IsGuardedHere) (is mark.When l.mark) (effect.conditional d own ps ts) (effect.flat_one d ps l ts >>= λ e. Ok (option_map Plain e))
        (λ w. when_here reach room l ts w one le k)
        (λ w. then_sound (Fits IsPart) (Fits IsGuardedHere) (effect.flat_one d ps l ts) (λ e. Ok (option_map Plain e)) (flat_here ps most reach room l ts w f one le h k)
        (λ x p. made_so IsPart IsGuardedHere Plain x (λ e q. (q.0, fits_plain most e q.1)) p))

module _ (after : Table) (first : 0 < length after) (d : Domain) (ps : List Param) (params : AreParamsHere after first ps) (most : ℕ) where
  -- ---- effects

  -- what stands in a list of effects, on what is there, with at most so many levels
  abbrev pub IsSpreadHere : Spread → Type 0
  IsSpreadHere s = IsSpreadOf (length after) ps s × FitsSpread after most s

  abbrev AreEffectsHere : List Spread → Type 0
  AreEffectsHere es = All IsSpreadHere es

  -- variables and a body
  each_choice_here : (room : ℕ) (vs : Nesteds) (t : Nested) → suc room ≤ most → IsTypedList is_variable vs → IsBody the.Guarded room t → AreTold after vs → AllTold after t → Sound (Fits IsSpreadHere) (effect.for_each d ps (more (group vs) (more t none)))
  each_choice_here zero vs t le typed b h k = absurd (body_level the.Guarded zero t b refl)
  each_choice_here (suc room) vs t le typed b h k =
      then_sound (AreParamsHere after first) (Fits IsSpreadHere) (effect.bound_once d ps vs) (λ qs. effect.guarded d (length ps) (ps ++ qs) t >>= λ gs. Ok (Some (ForAll qs gs))) (binding_here after first d (length ps + 1) ps vs typed h params)
      (λ qs g.
      let both = both_here after first d (length ps) ps qs params g in
      let IsPart : Guarded → Type 0 = λ x. IsGuardedHere after first d (length ps) (ps ++ qs) both room x in
      let IsAct : Guarded → Type 0 = λ x. IsGuardedOf (length after) (ps ++ qs) x in
      then_sound (All IsPart) (Fits IsSpreadHere) (effect.guarded d (length ps) (ps ++ qs) t) (λ gs. Ok (Some (ForAll qs gs)))
      (body_here IsPart (effect.guarded_one d (length ps) (ps ++ qs)) after the.Guarded room
      (λ level l ts alone le_here told tolds. guarded_here after first d (length ps) (ps ++ qs) both room the.Guarded level l ts (guarded_apart level l ts alone) alone le_here told tolds)
      room t b (omega arith) k)
      (λ gs all. (
        (g.0, All-weaker IsPart IsAct (λ x p. p.0) gs all),
        spread_fits_more after (suc (suc room)) most (ForAll qs gs) (fits_for_each room qs gs g.1 (All-weaker IsPart (FitsGuarded after room) (λ x p. p.1) gs all)) le,
      )))

  -- an effect whose head is `forall`
  forall_here : (reach : Reach) (room : ℕ) (l : Lexeme) (ts : Nesteds) → is mark.Forall l.mark ≡ true → IsOneEffect reach room (group (more (word l) ts)) → room ≤ most → AreTold after ts → Sound (Fits IsSpreadHere) (effect.for_each d ps ts)
  forall_here _ _ _ _ w (grammar.addition reach room l ts m r) le k =
      let no : is mark.Forall l.mark ≡ false = isnt-by is_predicate_name mark.Forall l.mark m refl in
      absurd (cc)
  forall_here _ _ _ _ w (grammar.deletion reach room l a m one) le k =
      let no : is mark.Forall l.mark ≡ false = ap (is mark.Forall) m in
      absurd (cc)
  forall_here _ _ _ _ w (grammar.change reach room l a x m one v) le k =
      let no : is mark.Forall l.mark ≡ false = isnt-by is_change mark.Forall l.mark m refl in
      absurd (cc)
  forall_here _ _ _ _ w (grammar.conditional reach room l c t has m one b) le k =
      let no : is mark.Forall l.mark ≡ false = ap (is mark.Forall) m in
      absurd (cc)
  forall_here _ _ _ _ w (grammar.for_each reach room l vs t has m typed b) le k = each_choice_here room vs t le typed b k.0 k.1.0

  spread_here : (room : ℕ) (l : Lexeme) (ts : Nesteds) → IsOneEffect the.Spread room (group (more (word l) ts)) → room ≤ most → IsTold after l → AreTold after ts → Sound (Fits IsSpreadHere) (effect.spread_one d ps l ts)
  spread_here room l ts one le h k =
      let IsPart : Guarded → Type 0 = λ x. IsGuardedHere after first d (length ps) ps params most x in
      either_sound (Fits IsSpreadHere) (is mark.Forall l.mark) (effect.for_each d ps ts) (effect.guarded_one d (length ps) ps l ts >>= λ g. Ok (option_map Once g))
      (λ w. forall_here the.Spread room l ts w one le k)
      (λ w. then_sound (Fits IsPart) (Fits IsSpreadHere) (effect.guarded_one d (length ps) ps l ts) (λ g. Ok (option_map Once g))
      (guarded_here after first d (length ps) ps params most the.Spread room l ts w one le h k)
      (λ x p. made_so IsPart IsSpreadHere Once x (λ g q. (q.0, fits_once most g q.1)) p))

  effect_here : (room : ℕ) (t : Nested) (before : List Spread) → IsEffect room t → room ≤ most → AllTold after t → AreEffectsHere before → Sound AreEffectsHere (effect.effect d ps t before)
  effect_here room t before one le h all = flattened_here IsSpreadHere (effect.spread_one d ps) after the.Spread most spread_here room t before one le h all

  -- ---- the parts of an action's effect

  abbrev pub AreChangesHere : Effects → Type 0
  AreChangesHere changes = AreEffectsHere changes.at_start × AreEffectsHere changes.at_end

  at_time_here : (room : ℕ) (moment : Mark) (t : Nested) (changes : Effects) → IsEffect room t → room ≤ most → AllTold after t → AreChangesHere changes → Sound AreChangesHere (effect.at_time d ps moment t changes)
  at_time_here room mark.Start t changes one le h k =
      then_sound AreEffectsHere AreChangesHere (effect.effect d ps t changes.at_start) (λ es. Ok (effect.at_start changes es)) (effect_here room t changes.at_start one le h k.0) (λ es p. (p, k.1))
  at_time_here room m t changes one le h k =
      then_sound AreEffectsHere AreChangesHere (effect.effect d ps t changes.at_end) (λ es. Ok (effect.at_end changes es)) (effect_here room t changes.at_end one le h k.1) (λ es p. (k.0, p))

  timed_part_here : (room : ℕ) (m moment : Mark) (t : Nested) (changes : Effects) → IsEffect room t → room ≤ most → AllTold after t → AreChangesHere changes → Sound AreChangesHere (effect.timed_part d ps m moment t changes)
  timed_part_here room mark.At moment t changes one le h k = at_time_here room moment t changes one le h k
  timed_part_here room m moment t changes one le h k = k

  timed_effect_here : (room : ℕ) (t : Nested) (changes : Effects) → IsTimedEffect room t → room ≤ most → AllTold after t → AreChangesHere changes → Sound AreChangesHere (effect.timed d ps t changes)
  timed_effect_here _ _ changes (grammar.effect_at room l m e first_word moment one) le h k =
      no_sound AreChangesHere (is mark.And l.mark) (effect.all_timed d ps (more (word m) (more e none)) changes) (effect.timed_part d ps l.mark m.mark e changes) (ap (is mark.And) first_word)
      (timed_part_here room l.mark m.mark e changes one le h.1.1.0 k)

  -- a list of parts, by its head
  listed_changes : (l : Lexeme) (ts : Nesteds) (changes : Effects) → l.mark ≡ mark.And → Sound AreChangesHere (effect.all_timed d ps ts changes) → Sound AreChangesHere (effect.timed d ps (group (more (word l) ts)) changes)
  listed_changes l ts changes m h = yes_sound AreChangesHere (is mark.And l.mark) (effect.all_timed d ps ts changes) (effect.timed_form d ps l ts changes) (ap (is mark.And) m) h

  mutual
    change_here : (room : ℕ) (t : Nested) (changes : Effects) → IsChange room t → room ≤ suc most → AllTold after t → AreChangesHere changes → Sound AreChangesHere (effect.timed d ps t changes)
    change_here _ _ changes (grammar.empty_change room) le h k = k
    change_here _ _ changes (grammar.all_changes room l ts m all) le h k = listed_changes l ts changes m (changes_here room ts changes all (omega (arith, le)) h.1 k)
    change_here _ _ changes (grammar.timed_change room t one) le h k = timed_effect_here room t changes one (omega (arith, le)) h k

    changes_here : (room : ℕ) (ts : Nesteds) (changes : Effects) → AreChanges room ts → room ≤ suc most → AreTold after ts → AreChangesHere changes → Sound AreChangesHere (effect.all_timed d ps ts changes)
    changes_here _ _ changes (grammar.no_change room) le h k = k
    changes_here _ _ changes (grammar.one_change room t ts one all) le h k =
        then_sound AreChangesHere AreChangesHere (effect.timed d ps t changes) (λ x. effect.all_timed d ps ts x) (change_here room t changes one le h.0 k) (λ x p. changes_here room ts x all le h.1 p)

  pub effect_form_here : (room : ℕ) (t : Nested) (changes : Effects) → IsEffectForm room t → room ≤ suc (suc most) → AllTold after t → AreChangesHere changes → Sound AreChangesHere (effect.timed d ps t changes)
  effect_form_here _ _ changes (grammar.empty_effect room) le h k = k
  effect_form_here _ _ changes (grammar.listed_effect room l ts m all) le h k = listed_changes l ts changes m (changes_here room ts changes all (omega (arith, le)) h.1 k)
  effect_form_here _ _ changes (grammar.lone_effect room t one) le h k = timed_effect_here room t changes one (omega (arith, le)) h k
