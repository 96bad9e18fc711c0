-- The level at a place of a domain's text is the number of parentheses open there, and one more for each whose form stands alone.
use Rattle.std.proofs.Common.{◌≡◌, ℕ, ◌+◌, ◌-◌, ◌≤◌, Bool, true, false, ◌&&◌, if◌then◌else◌, List, [], ◌∷◌, ◌++◌, length, Option, None, Some, slice_get, take, refl, sym, ◌∙◌, ap, subst, arith, length-append}
use Rattle.std.specs.List.{list_all}
use Rattle.std.proofs.lemmas.Bool.{and_parts, or_left, or_right, or_parts}
use Rattle.ps_grammar.specs.Forms.{opened_at, opens}
use Rattle.ps_grammar.specs.Marks.{is}
use Rattle.ps_grammar.specs.Shape.{deepest, opens_level, wanted}
use Rattle.ps_grammar.specs.Symbols.{level, weight}
use Rattle.ps_grammar.specs.declared.marks.Mark.{Mark}
use Rattle.ps_grammar.specs.declared.marks.Mark.TheVariants.{Open, Close, At, Forall, When}
use Rattle.ps_grammar.specs.declared.symbols.Symbol.{Symbol}
use Rattle.ps_grammar.specs.declared.symbols.Symbol.TheVariants.{InEffect}
use Rattle.ps_grammar.specs.declared.symbols.EffectPart.TheVariants as effect
use Rattle.ps_grammar.proofs.Levels.{level_more}
use Rattle.ps_reading_laws.specs.Laws.{DepthsAreParentheses, DepthsAreToldThere, LevelsAreParentheses}
use Rattle.ps_reading_laws.specs.Levels.{OpenForm, count_alone, is_alone, is_body_begun, is_other, levels_after, open_forms, opens_in, want_body, want_timed, with_mark}
use Rattle.ps_reading_laws.proofs.OpenForms.{are_safe, begun_not_alone, count_all, free_all, is_safe, length_forms, length_marked, listed_not_alone, not_alone, want_alone}
use Rattle.ps_reading_laws.proofs.TextSymbols.{are_flat, is_before, is_body_head, is_calm, is_ending, is_flat, opens_elsewhere}
use Rattle.ps_reading_laws.proofs.FormsFit.{Fits, Rest, Listing, list_of, head_of, key_of, form_head_of, end_of, split_of, Calm, rest_around, rest_free, flat_level, form_weight, text_fits}
use Rattle.ps_reading_laws.proofs.FormsFit.Listing.{parts, effects}
use Rattle.ps_reading_laws.proofs.FormsFit.Fits.{calm, flat, keyed, headed, listed, begun, timed, effect_in, when_in, forall_in, body, body_begun, lone_terms, ending}
use Rattle.ps_reading_laws.proofs.FormsFit.Rest.{nothing_more, its_end, after_form}

-- ---- levels

-- so many levels count in these forms
abbrev levels_in : List OpenForm → ℕ
levels_in forms = length forms + count_alone forms

end_weight : (a : Bool) (g : OpenForm) (outer : List OpenForm) → is_alone g outer ≡ a → weight (end_of a) + levels_in outer ≡ levels_in (g ∷ outer)
end_weight true g outer alone = rw alone (omega arith)
end_weight false g outer alone = rw alone (omega arith)

-- a form that has just begun counts for one level
begun_levels : (outer : List OpenForm) → 1 + levels_in outer ≡ levels_in ([] ∷ outer)
begun_levels outer = rw (begun_not_alone outer) (omega arith)

form_head_weight : (c : Bool) → weight (form_head_of c) ≡ 1
form_head_weight true = refl
form_head_weight false = refl

list_weight : (l : Listing) → weight (list_of l) ≡ 1
list_weight (parts true) = refl
list_weight (parts false) = refl
list_weight (effects reach) = refl

head_weight : (l : Listing) → weight (head_of l) ≡ 1
head_weight (parts true) = refl
head_weight (parts false) = refl
head_weight (effects reach) = refl

mutual
  levels_fit : (st : List Symbol) (forms : List OpenForm) → Fits st forms → level st ≡ levels_in forms
  levels_fit _ _ (calm c one top st forms outer before rest) =
      let counts = count_all c outer (rest_around c one st outer rest) (rest_free c one st outer rest) forms before.safe in
      omega (arith, level_more top st, before.count, levels_rest c one st outer rest, counts, length-append forms outer)
  levels_fit _ _ (flat top st form outer all free counts after) =
      let alone : count_alone (form ∷ outer) ≡ count_alone outer = rw (not_alone form outer free) refl in
      omega (arith, level_more top st, flat_level top all, levels_fit st (with_mark Close outer) after, counts, alone, length_marked Close outer)
  levels_fit _ _ (keyed c st f fs out after) = omega (arith, form_weight c, levels_fit st ((Close ∷ key_of c ∷ f) ∷ fs) after)
  levels_fit _ _ (headed c st f fs out after) = omega (arith, form_head_weight c, levels_fit st ((Close ∷ key_of c ∷ f) ∷ fs) after, begun_levels ((key_of c ∷ f) ∷ fs))
  levels_fit _ _ (listed l st g x f fs own inside after) =
      let alone : count_alone (g ∷ (x ∷ f) ∷ fs) ≡ count_alone ((x ∷ f) ∷ fs) = rw (listed_not_alone g ((x ∷ f) ∷ fs) own) refl in
      omega (arith, list_weight l, levels_fit st ((Close ∷ x ∷ f) ∷ fs) after, alone)
  levels_fit _ _ (begun l st x f fs free inside after) = omega (arith, head_weight l, levels_fit st ((Close ∷ x ∷ f) ∷ fs) after, begun_levels ((x ∷ f) ∷ fs))
  levels_fit _ _ (timed a st x f fs alone out after) = omega (arith, levels_fit st ((Close ∷ x ∷ f) ∷ fs) after, end_weight a (At ∷ []) ((x ∷ f) ∷ fs) alone)
  levels_fit _ _ (effect_in a b st x f fs alone out after) = omega (arith, levels_fit st ((Close ∷ x ∷ f) ∷ fs) after, end_weight a (At ∷ []) ((x ∷ f) ∷ fs) alone)
  levels_fit _ _ (when_in a st x f fs alone out after) = omega (arith, levels_fit st ((Close ∷ x ∷ f) ∷ fs) after, end_weight a (When ∷ []) ((x ∷ f) ∷ fs) alone)
  levels_fit _ _ (forall_in a st x f fs alone out after) = omega (arith, levels_fit st ((Close ∷ x ∷ f) ∷ fs) after, end_weight a (Forall ∷ []) ((x ∷ f) ∷ fs) alone)
  levels_fit _ _ (body a b reach st x f fs alone out after) = omega (arith, levels_fit st ((Close ∷ x ∷ f) ∷ fs) after, end_weight a (split_of b ∷ []) ((x ∷ f) ∷ fs) alone)
  levels_fit _ _ (body_begun a b reach st x f fs alone out after) =
      omega (arith, levels_fit st ((Close ∷ x ∷ f) ∷ fs) after, end_weight a (split_of b ∷ []) ((x ∷ f) ∷ fs) alone, begun_levels ((Close ∷ split_of b ∷ []) ∷ (x ∷ f) ∷ fs))
  levels_fit _ _ (lone_terms st y g x f fs alone after) = omega (arith, levels_fit st ((Close ∷ x ∷ f) ∷ fs) after, end_weight true (y ∷ g) ((x ∷ f) ∷ fs) alone)
  levels_fit _ _ (ending a st y g x f fs alone after) = omega (arith, levels_fit st ((Close ∷ x ∷ f) ∷ fs) after, end_weight a (y ∷ g) ((x ∷ f) ∷ fs) alone)

  levels_rest : (c one : Bool) (st : List Symbol) (outer : List OpenForm) → Rest c one st outer → level st ≡ levels_in outer
  levels_rest _ _ _ _ nothing_more = refl
  levels_rest _ _ _ _ (its_end c a st y g x f fs safe alone inside after) = omega (arith, levels_fit st ((Close ∷ x ∷ f) ∷ fs) after, end_weight a (y ∷ g) ((x ∷ f) ∷ fs) alone)
  levels_rest _ _ _ _ (after_form c st x f fs free inside after) = levels_fit st ((Close ∷ x ∷ f) ∷ fs) after

pub levels_are_parentheses : LevelsAreParentheses
levels_are_parentheses ms front = levels_fit (wanted ms) (open_forms ms) (text_fits ms front) ∙ ap (λ n. n + count_alone (open_forms ms)) (length_forms ms)

-- ---- where a level is opened

calm_no_body : (c : Bool) (s : Symbol) → is_calm c s ≡ true → is_body_head (Some s) ≡ false
calm_no_body c (InEffect (effect.BodyHead reach)) e = absurd (cc)
calm_no_body c (InEffect effect.Form) e = refl
calm_no_body c _ e = refl

flat_symbol : (s : Symbol) → is_flat s ≡ true → is_body_head (Some s) ≡ false
flat_symbol (InEffect (effect.BodyHead reach)) e = absurd (cc)
flat_symbol (InEffect effect.Form) e = refl
flat_symbol _ e = refl

flat_no_body : (top st : List Symbol) → are_flat top ≡ true → is_body_head (slice_get (top ++ st) 0) ≡ false
flat_no_body [] st e = absurd (cc)
flat_no_body (s ∷ []) st e = flat_symbol s (or_right (is_before s) (is_ending s) e)
flat_no_body (s ∷ t ∷ top) st e = flat_symbol s (or_left (is_before s) (is_ending s) (and_parts (is_before s) (are_flat (t ∷ top)) e).0)

-- in these forms no body is about to begin
rest_no_body : (c one : Bool) (st : List Symbol) (outer : List OpenForm) → Rest c one st outer → is_body_begun outer ≡ false
rest_no_body _ _ _ _ nothing_more = refl
rest_no_body _ _ _ _ (its_end c a st y g x f fs safe alone inside after) = refl
rest_no_body _ _ _ _ (after_form c st x f fs free inside after) = refl

free_no_body : (form : OpenForm) (outer : List OpenForm) → want_alone outer ≡ false → is_body_begun (form ∷ outer) ≡ false
free_no_body [] outer free = (or_parts (want_timed outer) (want_body outer) free).1
free_no_body (m ∷ form) outer free = refl

calm_forms : (c one : Bool) (st : List Symbol) (forms outer : List OpenForm) → Rest c one st outer → are_safe c forms ≡ true → is_body_begun (forms ++ outer) ≡ false
calm_forms c one st [] outer rest safe = rest_no_body c one st outer rest
calm_forms c one st (form ∷ forms) outer rest safe =
    free_no_body form (forms ++ outer) (free_all c outer (rest_around c one st outer rest) (rest_free c one st outer rest) forms (and_parts (is_safe c form) (are_safe c forms) safe).1)

rest_heads : (c one : Bool) (st : List Symbol) (outer : List OpenForm) → Calm c one [] [] → Rest c one st outer → is_body_head (slice_get st 0) ≡ is_body_begun outer
rest_heads _ _ _ _ before nothing_more = refl
rest_heads _ _ _ _ before (its_end c true st y g x f fs safe alone inside after) = refl
rest_heads _ _ _ _ before (its_end c false st y g x f fs safe alone inside after) = refl
rest_heads _ _ _ _ before (after_form c st x f fs free inside after) = (let whole = before.whole refl in absurd (omega (arith, whole.1)))

body_heads : (st : List Symbol) (forms : List OpenForm) → Fits st forms → is_body_head (slice_get st 0) ≡ is_body_begun forms
body_heads _ _ (calm c one [] st [] outer before rest) = rest_heads c one st outer before rest
body_heads _ _ (calm c one [] st (form ∷ forms) outer before rest) = absurd (omega (arith, before.count))
body_heads _ _ (calm c one (s ∷ top) st forms outer before rest) =
    calm_no_body c s (and_parts (is_calm c s) (list_all (is_calm c) top) before.symbols).0 ∙ sym (calm_forms c one st forms outer rest before.safe)
body_heads _ _ (flat top st form outer all free counts after) = flat_no_body top st all ∙ sym (free_no_body form outer free)
body_heads _ _ (keyed true st f fs out after) = refl
body_heads _ _ (keyed false st f fs out after) = refl
body_heads _ _ (headed true st f fs out after) = refl
body_heads _ _ (headed false st f fs out after) = refl
body_heads _ _ (listed l st [] x f fs own inside after) = absurd (cc)
body_heads _ _ (listed (parts true) st (y ∷ g) x f fs own inside after) = refl
body_heads _ _ (listed (parts false) st (y ∷ g) x f fs own inside after) = refl
body_heads _ _ (listed (effects reach) st (y ∷ g) x f fs own inside after) = refl
body_heads _ _ (begun (parts true) st x f fs free inside after) = sym (free_no_body [] ((x ∷ f) ∷ fs) free)
body_heads _ _ (begun (parts false) st x f fs free inside after) = sym (free_no_body [] ((x ∷ f) ∷ fs) free)
body_heads _ _ (begun (effects reach) st x f fs free inside after) = sym (free_no_body [] ((x ∷ f) ∷ fs) free)
body_heads _ _ (timed a st x f fs alone out after) = refl
body_heads _ _ (effect_in a b st x f fs alone out after) = refl
body_heads _ _ (when_in a st x f fs alone out after) = refl
body_heads _ _ (forall_in a st x f fs alone out after) = refl
body_heads _ _ (body a b reach st x f fs alone out after) = refl
body_heads _ _ (body_begun a true reach st x f fs alone out after) = sym (rw out refl)
body_heads _ _ (body_begun a false reach st x f fs alone out after) = sym (rw out refl)
body_heads _ _ (lone_terms st y g x f fs alone after) = refl
body_heads _ _ (ending true st y g x f fs alone after) = refl
body_heads _ _ (ending false st y g x f fs alone after) = refl

-- the mark opens a level, by what is wanted and by the forms
body_opens : (wanted : Option Symbol) (forms : List OpenForm) (m : Mark) → is_body_head wanted ≡ true → is_body_begun forms ≡ true → opens wanted m ≡ opens_in forms (Some m)
body_opens (Some (InEffect (effect.BodyHead reach))) forms Open b h = refl
body_opens (Some (InEffect (effect.BodyHead reach))) forms Close b h = refl
body_opens (Some (InEffect (effect.BodyHead reach))) forms m b h = sym (ap (λ k. k && is_other m) h)
body_opens _ forms m b h = absurd (cc)

forms_open : (forms : List OpenForm) (m : Mark) → is_body_begun forms ≡ false → opens_in forms (Some m) ≡ is Open m
forms_open forms Open h = refl
forms_open forms Close h = refl
forms_open forms m h = ap (λ k. k && is_other m) h

opens_alike : (wanted : Option Symbol) (forms : List OpenForm) (m : Mark) (b : Bool) → is_body_head wanted ≡ b → is_body_begun forms ≡ b → opens wanted m ≡ opens_in forms (Some m)
opens_alike wanted forms m true w f = body_opens wanted forms m w f
opens_alike wanted forms m false w f = opens_elsewhere wanted m w ∙ sym (forms_open forms m f)

level_opened : (st : List Symbol) (forms : List OpenForm) (o : Option Mark) → Fits st forms → opens_level st o ≡ opens_in forms o
level_opened st forms None fit = refl
level_opened st forms (Some m) fit = opens_alike (slice_get st 0) forms m (is_body_begun forms) (body_heads st forms fit) refl

pub depths_are_parentheses : DepthsAreParentheses
depths_are_parentheses ms at front =
    let before : List Mark = take at ms in
    let same : opens_level (wanted before) (slice_get ms at) ≡ opens_in (open_forms before) (slice_get ms at) = level_opened (wanted before) (open_forms before) (slice_get ms at) (text_fits before front) in
    let many : level (wanted before) ≡ levels_after before = levels_are_parentheses before front in
    (λ h. (sym same ∙ h.0, subst (λ n. deepest ≤ n) many h.1), λ h. (same ∙ h.0, subst (λ n. deepest ≤ n) (sym many) h.1))

told_so : (wanted : Option Symbol) (at : ℕ) → opened_at wanted at ≡ (if is_body_head wanted then at - 1 else at)
told_so (Some (InEffect (effect.BodyHead reach))) at = refl
told_so _ at = refl

pub depths_are_told_there : DepthsAreToldThere
depths_are_told_there ms at front =
    told_so (slice_get (wanted ms) 0) at ∙ ap (λ b. if b then at - 1 else at) (body_heads (wanted ms) (open_forms ms) (text_fits ms front))
