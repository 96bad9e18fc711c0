-- Effects by how many words and lists they have.
use Rattle.std.proofs.Common.{◌≡◌, ◌≤◌, ◌<◌, ℕ, Bool, true, false, not, ◌&&◌, List, [], ◌∷◌, ◌++◌, Option, Some, None, Ok, Err, length, map, refl, arith}
use Rattle.std.specs.Option.{is_none, option_map}
use Rattle.ps_world.specs.declared.domains.Domain.{Domain}
use Rattle.ps_world.specs.declared.schemas.Lifted.{Lifted}
use Rattle.ps_world.specs.declared.actions.Effect.TheVariants.{Add}
use Rattle.ps_world.specs.declared.actions.Guarded.TheVariants.{Plain}
use Rattle.ps_world.specs.declared.actions.Spread.{Spread}
use Rattle.ps_world.specs.declared.actions.Spread.TheVariants.{Once}
use Rattle.ps_grammar.specs.declared.marks.Mark.{Mark}
use Rattle.ps_grammar.specs.declared.marks.Mark.TheVariants as mark
use Rattle.ps_world.specs.declared.domains.Param.{Param}
use Rattle.ps_grammar.specs.Marks.{is}
use Rattle.ps_grammar.specs.declared.marks.Mark.TheVariants.{And, Not, Forall}
use Rattle.ps_conditions.specs.Steps.{◌>>=◌}
use Rattle.ps_pddl.specs.Effects.{added, addition, change_of, conditional, effect, flattened_form, is_addition, followed_by, for_each, plain_effect, timed_form}
use Rattle.ps_pddl.specs.Steps.{Read}
use Rattle.ps_pddl.specs.Terms.{fact}
use Rattle.ps_lists.specs.Nested.{Nested, Nesteds, nesteds, word, group, none, more}
use Rattle.ps_lists.specs.NestedViews.{nested}
use Rattle.ps_lists.specs.Places.{word_of, items, head, rest}
use Rattle.ps_lists.specs.declared.lexemes.Lexeme.{Lexeme}
use Rattle.ps_world.specs.declared.actions.Effects.{Effects}
use Rattle.ps_lists.specs.declared.trees.Tree.{Tree}

pub with_one : (d : Domain) (ps : List Param) (l : Lexeme) (us : List Tree) → length us ≡ 1 → plain_effect d ps l (nesteds (map nested us)) ≡ added d ps l (nesteds (map nested us))
with_one d ps l [] h = absurd (omega (arith, h))
with_one d ps l (t ∷ []) h = refl
with_one d ps l (t ∷ u ∷ us) h = absurd (omega (arith, h))

pub no_form : (d : Domain) (ps : List Param) (l : Lexeme) (us : List Tree) (changes : Effects) → length us ≡ 1 → timed_form d ps l (nesteds (map nested us)) changes ≡ Ok changes
no_form d ps l [] changes h = refl
no_form d ps l (t ∷ []) changes h = refl
no_form d ps l (t ∷ u ∷ us) changes h = absurd (omega (arith, h))

-- a head but `and`
pub other_head : {A : Type 0} (one : Lexeme → Nesteds → Read (Option A)) (us : List Tree) (before : List A) → 1 ≤ length us → is And (head (nesteds (map nested us))).mark ≡ false → flattened_form one (nesteds (map nested us)) before ≡ (one (head (nesteds (map nested us))) (rest (nesteds (map nested us))) >>= λ x. Ok (followed_by before x))
other_head one [] before h p = absurd (omega (arith, h))
other_head one (t ∷ us) before h p = rw p refl

-- a condition without effects, or variables without effects
pub no_conditional : (d : Domain) (own : ℕ) (ps : List Param) (us : List Tree) → length us < 2 → conditional d own ps (nesteds (map nested us)) ≡ Ok None
no_conditional d own ps [] h = refl
no_conditional d own ps (t ∷ []) h = refl
no_conditional d own ps (t ∷ u ∷ us) h = absurd (omega (arith, h))

pub no_for_each : (d : Domain) (ps : List Param) (us : List Tree) → length us < 2 → for_each d ps (nesteds (map nested us)) ≡ Ok None
no_for_each d ps [] h = refl
no_for_each d ps (t ∷ []) h = refl
no_for_each d ps (t ∷ u ∷ us) h = absurd (omega (arith, h))

-- a fact is made as deep as the levels of effects would put it
once_made : (r : Read Lifted) (before : List Spread) →
    ((((r >>= λ f. Ok (Some (Add f))) >>= λ e. Ok (option_map Plain e)) >>= λ g. Ok (option_map Once g)) >>= λ x. Ok (followed_by before x)) ≡ (r >>= λ f. Ok (before ++ Once (Plain (Add f)) ∷ []))
once_made (Ok f) before = refl
once_made (Err e) before = refl

-- an effect that changes no number adds a fact
unchanged : (d : Domain) (ps : List Param) (l : Lexeme) (ts : Nesteds) → change_of l.mark ≡ None → plain_effect d ps l ts ≡ added d ps l ts
unchanged d ps l none h = refl
unchanged d ps l (more a none) h = refl
unchanged d ps l (more a (more x ts)) h = rw h refl

-- each of these is as it says
all_apart : {A : Type 0} (a b c d : Bool) (o : Option A) → (not a && not b && not c && not d && is_none o) ≡ true → (a ≡ false) × (b ≡ false) × (c ≡ false) × (d ≡ false) × (o ≡ None)
all_apart true b c d o h = absurd (cc)
all_apart false true c d o h = absurd (cc)
all_apart false false true d o h = absurd (cc)
all_apart false false false true o h = absurd (cc)
all_apart false false false false (Some x) h = absurd (cc)
all_apart false false false false None h = (refl, refl, refl, refl, refl)

-- what adds a fact is read as one
pub effect_adds : (d : Domain) (ps : List Param) (t : Nested) (before : List Spread) → is_addition t ≡ true → effect d ps t before ≡ addition d ps (items t) before
effect_adds d ps (word l) before h = absurd (cc)
effect_adds d ps (group none) before h = absurd (cc)
effect_adds d ps (group (more f ts)) before h =
    let m : Mark = (word_of f).mark in
    let (no_and, no_not, no_when, no_forall, no_change) = all_apart (is And m) (is Not m) (is mark.When m) (is Forall m) (change_of m) h in
    rw (no_and, no_forall, no_when, no_not, unchanged d ps (word_of f) ts no_change) (once_made (fact d ps (word_of f) ts) before)
