-- Open forms: which of them may have one that stands alone in it.
use Rattle.std.proofs.Common.{◌≡◌, ◌⊎◌, ℕ, ◌-◌, Bool, true, false, not, ◌&&◌, ◌||◌, List, [], ◌∷◌, ◌++◌, length, refl, sym, ◌∙◌, ap, inl, inr, arith}
use Rattle.std.specs.List.{list_any}
use Rattle.std.proofs.lemmas.Bool.{true≢false, and_from, and_parts, cases_Bool, not-true, or_from, or_parts, or_right}
use Rattle.ps_grammar.specs.Marks.{is}
use Rattle.ps_grammar.specs.declared.marks.Mark.{Mark}
use Rattle.ps_grammar.specs.declared.marks.Mark.TheVariants.{Open, Close, ConditionKey, EffectKey, And, Forall, When}
use Rattle.ps_reading_laws.specs.Levels.{OpenForm, begins, closed, count_alone, forms_by, forms_from, is_alone, is_other, is_time, open_forms, opened, opened_by, want_body, want_timed, wants_body, wants_condition, wants_timed, with_mark}
use Rattle.ps_reading_laws.proofs.TextSymbols.{is_split, is_timed_key}

-- ---- marks

-- A mark is a parenthesis, or stands in the innermost form.
pub data Kind : Mark → Type 0 where
  opening : Kind Open
  closing : Kind Close
  standing : (m : Mark) → is Open m ≡ false → is Close m ≡ false → ((n : ℕ) → opened_by n m ≡ n) → ((forms : List OpenForm) → forms_by forms m ≡ with_mark m forms) → Kind m

pub kind_of : (m : Mark) → Kind m
kind_of Open = opening
kind_of Close = closing
kind_of m = standing m refl refl (λ n. refl) (λ forms. refl)

-- ---- how many forms are open

pub length_marked : (m : Mark) (forms : List OpenForm) → length (with_mark m forms) ≡ length forms
length_marked m [] = refl
length_marked m (form ∷ outer) = refl

length_closed : (forms : List OpenForm) → length (closed forms) ≡ length forms - 1
length_closed [] = refl
length_closed (form ∷ outer) = omega (arith, length_marked Close outer)

length_by : (forms : List OpenForm) (m : Mark) → length (forms_by forms m) ≡ opened_by (length forms) m
length_by forms Open = refl
length_by forms Close = length_closed forms
length_by forms _ = length_marked _ forms

length_from : (ms : List Mark) (forms : List OpenForm) → length (forms_from forms ms) ≡ opened (length forms) ms
length_from [] forms = refl
length_from (m ∷ ms) forms = length_from ms (forms_by forms m) ∙ ap (λ n. opened n ms) (length_by forms m)

-- as many forms are open as parentheses
pub length_forms : (ms : List Mark) → length (open_forms ms) ≡ opened 0 ms
length_forms ms = length_from ms []

-- ---- forms in which none stands alone

-- the next form in these may stand alone
abbrev pub want_alone : List OpenForm → Bool
want_alone outer = want_timed outer || want_body outer

-- a form in these doesn't stand alone
pub not_alone : (form : OpenForm) (outer : List OpenForm) → want_alone outer ≡ false → is_alone form outer ≡ false
not_alone form outer h =
    let parts = or_parts (want_timed outer) (want_body outer) h in
    rw (parts.0, parts.1) refl

-- no form in this one stands alone, by what stands in it, where it is in a condition or not
abbrev pub is_safe : Bool → OpenForm → Bool
is_safe c form = not (wants_timed form) && (c || not (begins is_split form))

-- a body follows `forall` or `when`
body_begins : (form : OpenForm) → wants_body form ≡ true → begins is_split form ≡ true
body_begins (Close ∷ Forall ∷ []) e = refl
body_begins (Close ∷ When ∷ []) e = refl
body_begins _ e = absurd (cc)

-- the condition of a `when` follows `when`
condition_begins : (form : OpenForm) → wants_condition form ≡ true → (wants_timed form ≡ true) ⊎ (begins is_split form ≡ true)
condition_begins (ConditionKey ∷ form) e = inl refl
condition_begins (When ∷ []) e = inr refl
condition_begins _ e = absurd (cc)

no_body : (form : OpenForm) → begins is_split form ≡ false → wants_body form ≡ false
no_body form e =
    elim (cases_Bool (wants_body form)) [
      | inl body ↦ absurd (true≢false (sym (body_begins form body) ∙ e))
      | inr none ↦ none
    ]

no_condition : (form : OpenForm) → wants_timed form ≡ false → begins is_split form ≡ false → wants_condition form ≡ false
no_condition form t e =
    elim (cases_Bool (wants_condition form)) [
      | inl wanted ↦ elim (condition_begins form wanted) [
        | inl timed ↦ absurd (true≢false (sym timed ∙ t))
        | inr split ↦ absurd (true≢false (sym split ∙ e))
      ]
      | inr none ↦ none
    ]

-- what a safe form says of itself
plain_parts : (form : OpenForm) → is_safe false form ≡ true → (wants_timed form ≡ false) × (begins is_split form ≡ false)
plain_parts form h =
    let parts = and_parts (not (wants_timed form)) (not (begins is_split form)) h in
    (not-true (wants_timed form) parts.0, not-true (begins is_split form) parts.1)

no_right : (a b : Bool) → b ≡ false → (a && b) ≡ false
no_right true b e = e
no_right false b e = refl

-- out of conditions it wants none, nor a body
pub plain_wants : (form : OpenForm) (outer : List OpenForm) → is_safe false form ≡ true → want_alone (form ∷ outer) ≡ false
plain_wants form outer h =
    let parts = plain_parts form h in
    rw (parts.0, no_body form parts.1) refl

pub plain_around : (c : Bool) (form : OpenForm) (outer : List OpenForm) → is_safe false form ≡ true → list_any wants_condition outer ≡ c → list_any wants_condition (form ∷ outer) ≡ c
plain_around c form outer h around =
    let parts = plain_parts form h in
    rw (no_condition form parts.0 parts.1) around

-- no form stands alone in a safe one
pub safe_wants : (c : Bool) (form : OpenForm) (outer : List OpenForm) → is_safe c form ≡ true → list_any wants_condition outer ≡ c → want_alone (form ∷ outer) ≡ false
safe_wants true form outer h around =
    let parts = and_parts (not (wants_timed form)) true h in
    or_from (wants_timed form) (wants_body form && not (list_any wants_condition outer)) (not-true (wants_timed form) parts.0) (no_right (wants_body form) (not (list_any wants_condition outer)) (ap not around))
safe_wants false form outer h around = plain_wants form outer h

-- and it is in a condition where those around it are
pub safe_around : (c : Bool) (form : OpenForm) (outer : List OpenForm) → is_safe c form ≡ true → list_any wants_condition outer ≡ c → list_any wants_condition (form ∷ outer) ≡ c
safe_around true form outer h around = or_right (wants_condition form) (list_any wants_condition outer) around
safe_around false form outer h around = plain_around false form outer h around

key_timed : (m : Mark) (form : OpenForm) → wants_timed (m ∷ form) ≡ is_timed_key m
key_timed ConditionKey form = refl
key_timed _ form = refl

-- a form in which nothing stands is safe
pub safe_none : (c : Bool) → is_safe c [] ≡ true
safe_none c = or_right c true refl

-- a safe form is safe after one in it
pub safe_close : (c : Bool) (form : OpenForm) → is_safe c form ≡ true → is_safe c (Close ∷ form) ≡ true
safe_close c [] h = or_right c true refl
safe_close c (n ∷ form) h = (and_parts (not (wants_timed (n ∷ form))) (c || not (begins is_split (n ∷ form))) h).1

-- after its first mark or another, where that is no keyword
pub safe_mark : (c : Bool) (m n : Mark) (form : OpenForm) → is_safe c (n ∷ form) ≡ true → is_timed_key m ≡ false → is_safe c (m ∷ n ∷ form) ≡ true
safe_mark c m n form h key =
    and_from (not (wants_timed (m ∷ n ∷ form))) (c || not (begins is_split (n ∷ form))) (ap not (key_timed m (n ∷ form) ∙ key))
    (and_parts (not (wants_timed (n ∷ form))) (c || not (begins is_split (n ∷ form))) h).1

-- and after the form of a keyword in it
pub safe_keyed : (key : Mark) (form : OpenForm) → is_split key ≡ false → is_safe false form ≡ true → is_safe false (Close ∷ key ∷ form) ≡ true
safe_keyed key [] plain h = ap not plain
safe_keyed key (n ∷ form) plain h = (and_parts (not (wants_timed (n ∷ form))) (not (begins is_split (n ∷ form))) h).1

-- a form is safe after its first mark
pub safe_first : (c : Bool) (m : Mark) → is_timed_key m ≡ false → (c || not (is_split m)) ≡ true → is_safe c (m ∷ []) ≡ true
safe_first c m key fits = and_from (not (wants_timed (m ∷ []))) (c || not (is_split m)) (ap not (key_timed m [] ∙ key)) fits

-- ---- several of them

-- all of them are safe
abbrev pub are_safe : Bool → List OpenForm → Bool
are_safe c [] = true
are_safe c (form ∷ forms) = is_safe c form && are_safe c forms

module _ (c : Bool) (base : List OpenForm) (around : list_any wants_condition base ≡ c) where
  pub around_all : (forms : List OpenForm) → are_safe c forms ≡ true → list_any wants_condition (forms ++ base) ≡ c
  around_all [] h = around
  around_all (form ∷ forms) h =
      let parts = and_parts (is_safe c form) (are_safe c forms) h in
      safe_around c form (forms ++ base) parts.0 (around_all forms parts.1)

  module _ (free : want_alone base ≡ false) where
    pub free_all : (forms : List OpenForm) → are_safe c forms ≡ true → want_alone (forms ++ base) ≡ false
    free_all [] h = free
    free_all (form ∷ forms) h =
        let parts = and_parts (is_safe c form) (are_safe c forms) h in
        safe_wants c form (forms ++ base) parts.0 (around_all forms parts.1)

    pub count_all : (forms : List OpenForm) → are_safe c forms ≡ true → count_alone (forms ++ base) ≡ count_alone base
    count_all [] h = refl
    count_all (form ∷ forms) h =
        let parts = and_parts (is_safe c form) (are_safe c forms) h in
        rw (not_alone form (forms ++ base) (free_all forms parts.1)) (count_all forms parts.1)

-- ---- lists

-- a form that began with `and` and has had others in it alone
abbrev pub is_listed : OpenForm → Bool
is_listed (And ∷ []) = true
is_listed (Close ∷ form) = is_listed form
is_listed form = false

-- what begins it is `and`
pub listed_begins : (passes : Mark → Bool) (form : OpenForm) → is_listed form ≡ true → begins passes form ≡ passes And
listed_begins passes (And ∷ []) h = refl
listed_begins passes (Close ∷ []) h = absurd (cc)
listed_begins passes (Close ∷ m ∷ form) h = listed_begins passes (m ∷ form) h
listed_begins passes _ h = absurd (cc)

listed_timed : (form : OpenForm) → is_listed form ≡ true → wants_timed form ≡ false
listed_timed (ConditionKey ∷ form) h = absurd (cc)
listed_timed (EffectKey ∷ form) h = absurd (cc)
listed_timed [] h = refl
listed_timed _ h = refl

-- so it is safe, out of conditions too
pub listed_safe : (c : Bool) (form : OpenForm) → is_listed form ≡ true → is_safe c form ≡ true
listed_safe c form h = rw (listed_timed form h, listed_begins is_split form h) (or_right c true refl)

-- and doesn't stand alone
pub listed_not_alone : (form : OpenForm) (outer : List OpenForm) → is_listed form ≡ true → is_alone form outer ≡ false
listed_not_alone form outer h =
    rw (listed_begins is_time form h, listed_begins is_other form h) (or_from (want_timed outer && false) (want_body outer && false) (no_right (want_timed outer) false refl) (no_right (want_body outer) false refl))

-- a form in which nothing stands yet doesn't either
pub begun_not_alone : (outer : List OpenForm) → is_alone [] outer ≡ false
begun_not_alone outer = or_from (want_timed outer && false) (want_body outer && false) (no_right (want_timed outer) false refl) (no_right (want_body outer) false refl)
