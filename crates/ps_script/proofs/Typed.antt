-- One word of a list of variables.
use Rattle.std.proofs.Common.{◌≡◌, ℕ, suc, ◌+◌, ◌-◌, ◌<◌, true, false, List, [], ◌∷◌, ◌++◌, length, length-append, drop, map, slice_index_or, take, append_assoc, inl, inr, refl, sym, ◌∙◌, ap, arith}
use Rattle.std.proofs.lemmas.Bool.{cases_lt}
use Rattle.std.proofs.lemmas.List.{drop_all, drop_more}
use Rattle.ps_world.specs.declared.domains.Param.{Param}
use Rattle.ps_world.specs.declared.names.Name.{Name}
use Rattle.ps_grammar.specs.Marks.{is}
use Rattle.ps_grammar.specs.declared.marks.Mark.TheVariants.{Minus}
use Rattle.ps_lists.specs.Nested.{Nesteds, nesteds}
use Rattle.ps_lists.specs.NestedViews.{nested}
use Rattle.ps_lists.specs.Places.{word_of}
use Rattle.ps_lists.specs.declared.lexemes.Lexeme.{Lexeme}
use Rattle.ps_lists.specs.declared.trees.Tree.{Tree}
use Rattle.ps_script.specs.Goals.{kind_ahead, typed, typed_after}

-- what is left at a place, as contracts see it
abbrev pub left : List Tree → ℕ → Nesteds
left ts i = nesteds (map nested (drop i ts))

-- the name of a type is passed over
after_type : (ts : List Tree) (i : ℕ) (t : Tree) → typed_after (left ts i) ≡ typed (left ts (i + 1))
after_type ts i t =
    elim (cases_lt i (length ts)) [
      | inl within ↦ rw (drop_more ts i t within) refl
      | inr past ↦ rw (drop_all i ts past, drop_all (i + 1) ts (omega (arith, past))) refl
    ]

-- one variable more is listed, of which there may be one more
listed_more : (all : List Param) (p : Param) (rest : List Param) (most : ℕ) → length all < most → (all ++ p ∷ []) ++ take (most - length (all ++ p ∷ [])) rest ≡ all ++ take (most - length all) (p ∷ rest)
listed_more all p rest most room =
    let one : most - length all ≡ suc (most - length (all ++ p ∷ [])) = omega (arith, room, length-append all (p ∷ [])) in
    rw one (append_assoc all (p ∷ []) (take (most - length (all ++ p ∷ [])) rest))

module _ (ts : List Tree) (i : ℕ) (t : Tree) (within : i < length ts) (here : t ≡ slice_index_or ts i t) where
  first : drop i ts ≡ t ∷ drop (i + 1) ts
  first = drop_more ts i t within ∙ ap (λ x. x ∷ drop (i + 1) ts) (sym here)

  -- after `-` the name of a type is passed over
  typed_minus : is Minus (word_of (nested t)).mark ≡ true → typed (left ts i) ≡ typed (left ts (i + 1 + 1))
  typed_minus e = rw (first, e) (after_type ts (i + 1) t)

  module _ (l : Lexeme) (kind : Name) (word : l ≡ word_of (nested t)) (name : is Minus l.mark ≡ false) (run : kind ≡ kind_ahead (left ts i)) where
    no_minus : is Minus (word_of (nested t)).mark ≡ false
    no_minus = ap (λ x. is Minus x.mark) (sym word) ∙ name

    -- any other word is a variable, and the run goes on
    pub run_on : kind ≡ kind_ahead (left ts (i + 1))
    run_on =
        let same : kind_ahead (left ts i) ≡ kind_ahead (left ts (i + 1)) = rw (first, no_minus) refl in
        run ∙ same

    typed_name : typed (left ts i) ≡ record { name = l.name; kind = kind } ∷ typed (left ts (i + 1))
    typed_name = rw (first, no_minus, word, ← run_on) refl

    -- where it is listed, those that are left make the same list
    pub listed_variable : (all new : List Param) (most : ℕ) (whole : List Param) → length all < most → new ≡ all ++ record { name = l.name; kind = kind } ∷ [] → all ++ take (most - length all) (typed (left ts i)) ≡ whole → new ++ take (most - length new) (typed (left ts (i + 1))) ≡ whole
    listed_variable all new most whole room e same =
        let p : Param = record { name = l.name; kind = kind } in
        rw e (listed_more all p (typed (left ts (i + 1))) most room ∙ ap (λ ps. all ++ take (most - length all) ps) (sym typed_name) ∙ same)

  -- and so they do where a type is passed over
  pub listed_type : (all : List Param) (most : ℕ) (whole : List Param) → is Minus (word_of (nested t)).mark ≡ true → all ++ take (most - length all) (typed (left ts i)) ≡ whole → all ++ take (most - length all) (typed (left ts (i + 1 + 1))) ≡ whole
  listed_type all most whole e same = ap (λ ps. all ++ take (most - length all) ps) (sym (typed_minus e)) ∙ same
