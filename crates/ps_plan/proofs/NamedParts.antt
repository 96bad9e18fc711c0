-- The names of a line's step, put into a table one after another.
use Rattle.std.proofs.Common.{◌≡◌, ℕ, ◌+◌, ◌-◌, ◌<◌, ◌≤◌, true, ◌&&◌, nat_le, List, [], ◌∷◌, ◌++◌, length, take, get_or, set, sym, ap, ◌∙◌, arith, append_assoc}
use Rattle.std.proofs.lemmas.List.{get_or-take, get_or-drop, length-take, length-drop, take_more_set}
use Rattle.std.proofs.lemmas.Bool.{and_parts, leb-true}
use Rattle.std.specs.List.{list_all}
use Rattle.ps_world.specs.Names.{Table}
use Rattle.ps_world.specs.declared.names.Name.{Name}
use Rattle.ps_text.specs.Names.{folded, interned, is_name, place_of}
use Rattle.ps_text.specs.Words.{word_at}
use Rattle.ps_text.proofs.Digits.{list_all-get_or}
use Rattle.ps_plan.specs.PlanText.{fits, has_marks, most_parts, named_all, names_from}
use Rattle.ps_plan.proofs.LineParts.{names_from-more}

-- how many parts there are where they fit, and that names stand among them
pub record AreFit (parts : List (List ℕ)) : Type 0 where
  pub enough : 8 ≤ length parts
  pub names : list_all is_name (names_from parts 3) ≡ true

pub fit_parts : (parts : List (List ℕ)) → fits parts ≡ true → AreFit parts
fit_parts parts h =
    let tests = and_parts (nat_le 8 (length parts) && nat_le (length parts) most_parts) (has_marks parts && list_all is_name (names_from parts 3)) h in
    let counts = and_parts (nat_le 8 (length parts)) (nat_le (length parts) most_parts) tests.0 in
    let others = and_parts (has_marks parts) (list_all is_name (names_from parts 3)) tests.1 in
    record { enough = leb-true 8 (length parts) counts.0; names = others.1 }

module _ (parts : List (List ℕ)) (i : ℕ) where
  -- a part from place 3 on is a name, up to the last four
  pub is_name-at : list_all is_name (names_from parts 3) ≡ true → 3 ≤ i → i < length parts - 4 → is_name (word_at parts i) ≡ true
  is_name-at h k l =
      let names = take (length parts - 4) parts in
      let count : length names ≡ length parts - 4 = omega (arith, length-take (length parts - 4) parts) in
      let place : 3 + (i - 3) ≡ i = omega arith in
      let same : get_or (names_from parts 3) (i - 3) [] ≡ word_at parts i =
      get_or-drop 3 names (i - 3) [] ∙ ap (λ n. get_or names n []) place ∙ get_or-take (length parts - 4) parts i [] l in
      ap is_name (sym same) ∙ list_all-get_or is_name (names_from parts 3) (i - 3) [] h (omega (arith, length-drop 3 names))

-- one more argument
abbrev name : ℕ → Name
name n = record { 0 = n }

abbrev text : List (List ℕ) → ℕ → List ℕ
text parts i = folded (word_at parts i)

module _ (table : Table) (parts : List (List ℕ)) (i : ℕ) (h : i < length parts - 4) where
  pub named-more : (named_all table (names_from parts i)).0 ≡ name (place_of table (text parts i)) ∷ (named_all (interned table (text parts i)) (names_from parts (i + 1))).0
  named-more = ap (λ ws. (named_all table ws).0) (names_from-more parts i h)

  pub table-more : (named_all table (names_from parts i)).1 ≡ (named_all (interned table (text parts i)) (names_from parts (i + 1))).1
  table-more = ap (λ ws. (named_all table ws).1) (names_from-more parts i h)

-- the step of the loop over the arguments
module _ (parts : List (List ℕ)) (i : ℕ) (table after : Table) (h : 4 + i < length parts - 4) (is : after ≡ interned table (text parts (4 + i))) where
  abbrev rest : Table → ℕ → List Name × Table
  rest t k = named_all t (names_from parts k)

  next : 4 + i + 1 ≡ 4 + (i + 1)
  next = omega arith

  pub args-more : (found : List Name) (n : Name) → i < length found → n.0 ≡ place_of table (text parts (4 + i))
      → take i found ++ (rest table (4 + i)).0 ≡ take (i + 1) (set found i n) ++ (rest after (4 + (i + 1))).0
  args-more found n room place =
      ap (λ l. take i found ++ l) (named-more table parts (4 + i) h)
      ∙ sym (append_assoc (take i found) (name (place_of table (text parts (4 + i))) ∷ []) (rest (interned table (text parts (4 + i))) (4 + i + 1)).0)
      ∙ ap (λ k. (take i found ++ name k ∷ []) ++ (rest (interned table (text parts (4 + i))) (4 + i + 1)).0) (sym place)
      ∙ ap (λ l. l ++ (rest (interned table (text parts (4 + i))) (4 + i + 1)).0) (sym (take_more_set found i n room))
      ∙ ap (λ t. take (i + 1) (set found i n) ++ (rest t (4 + i + 1)).0) (sym is)
      ∙ ap (λ k. take (i + 1) (set found i n) ++ (rest after k).0) next

  pub args-table : (rest table (4 + i)).1 ≡ (rest after (4 + (i + 1))).1
  args-table = table-more table parts (4 + i) h ∙ ap (λ t. (rest t (4 + i + 1)).1) (sym is) ∙ ap (λ k. (rest after k).1) next
