-- Whether two values are the same, by their codes. A code is one to one, so the test decides that they are equal.
use Rattle.std.specs.Prelude.{◌≡◌, Bool, true, false, ◌&&◌, ◌==◌, List, [], ◌∷◌, refl}
use Rattle.std.specs.Bool.{Decides}
use Rattle.std.specs.Coded.{Coded}
use Rattle.std.specs.Cmp.{IsEquivalence, decided, unsigned_Decides, first_so, second_so}
use Rattle.std.specs.Cmp.Lexicographic.{pointwise}
use Rattle.std.proofs.Common.{ap, sym, ◌∙◌}
use base.Stored.{Gv, gnil, gnum, gcons}

-- whether two codes are the same
abbrev pub same_code : Gv → Gv → Bool
same_code gnil gnil = true
same_code (gnum m) (gnum n) = m == n
same_code (gcons a b) (gcons c d) = same_code a c && same_code b d
same_code a b = false

-- whether two values are the same
abbrev pub is_same : {A : Type 0} → Coded A → A → A → Bool
is_same c x y = same_code (c.code x) (c.code y)

pub same_code_itself : (a : Gv) → same_code a a ≡ true
same_code_itself gnil = refl
same_code_itself (gnum n) = (unsigned_Decides n n).1 refl
same_code_itself (gcons a b) = λ i. same_code_itself a i && same_code_itself b i

pub same_code_one : (a b : Gv) → same_code a b ≡ true → a ≡ b
same_code_one gnil gnil h = refl
same_code_one (gnum m) (gnum n) h = ap gnum ((unsigned_Decides m n).0 h)
same_code_one (gcons a b) (gcons c d) h =
    let p = same_code_one a c (first_so (same_code a c) (same_code b d) h) in
    let q = same_code_one b d (second_so (same_code a c) (same_code b d) h) in
    λ i. gcons (p i) (q i)
same_code_one a b h = absurd (cc)

module _ {A : Type 0} (c : Coded A) where
  pub is_same_decides : (x y : A) → Decides (is_same c x y) (x ≡ y)
  is_same_decides x y =
      (λ h. c.inj x y (same_code_one (c.code x) (c.code y) h), λ e. ap (is_same c x) (sym e) ∙ same_code_itself (c.code x))

  -- the laws of `==`
  pub is_same_equiv : IsEquivalence (is_same c)
  is_same_equiv = decided (is_same c) is_same_decides

  -- the codes of the items, one after another
  abbrev pub list_code : List A → Gv
  list_code [] = gnil
  list_code (x ∷ xs) = gcons (c.code x) (list_code xs)

  pub list_code_one : (xs ys : List A) → list_code xs ≡ list_code ys → xs ≡ ys
  list_code_one [] [] p = refl
  list_code_one (x ∷ xs) (y ∷ ys) p =
      let a : x ≡ y = c.inj x y (cc) in
      let b : xs ≡ ys = list_code_one xs ys (cc) in
      cc
  list_code_one [] (y ∷ ys) p = absurd (cc)
  list_code_one (x ∷ xs) [] p = absurd (cc)

  -- the code of a list, by which two lists are the same where their items are
  abbrev pub code_of_list : Coded (List A)
  code_of_list = record { code = list_code; inj = list_code_one }

  pub is_same_lists : (xs ys : List A) → pointwise (is_same c) xs ys ≡ is_same code_of_list xs ys
  is_same_lists [] [] = refl
  is_same_lists [] (y ∷ ys) = refl
  is_same_lists (x ∷ xs) [] = refl
  is_same_lists (x ∷ xs) (y ∷ ys) = ap (λ b. is_same c x y && b) (is_same_lists xs ys)
