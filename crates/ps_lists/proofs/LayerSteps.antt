-- Nested lists, word by word, where the words that are left are kept the other way round.
use Rattle.std.proofs.Common.{◌≡◌, ℕ, ◌+◌, ◌≤◌, true, List, [], ◌∷◌, ◌++◌, take, drop, length, map, reverse, sym, ◌∙◌, ap}
use Rattle.std.proofs.lemmas.List.{reverse-reverse}
use Rattle.ps_grammar.specs.declared.marks.Mark.TheVariants.{Open, Close}
use Rattle.ps_lists.specs.Lexemes.{marks}
use Rattle.ps_lists.specs.Nested.{Nesteds, nesteds, none}
use Rattle.ps_lists.specs.NestedViews.{nested}
use Rattle.ps_lists.specs.Spelling.{SpellAll, is_balanced}
use Rattle.ps_lists.specs.Spelling.SpellAll.{nothing}
use Rattle.ps_lists.specs.declared.lexemes.Lexeme.{Lexeme}
use Rattle.ps_lists.specs.declared.trees.Tree.{Tree}
use Rattle.ps_lists.specs.declared.trees.Tree.TheVariants.{Word, Group}
use Rattle.ps_lists.proofs.Layers.{IsLayered, all_layers, first_layer, layer_close, layer_left, layer_open, layer_within, layer_word}
use Rattle.ps_lists.proofs.Leftovers.{IsNext, is_next, used_up}
use Rattle.ps_lists.proofs.Stacks.Stacked.{innermost}

-- the words before those that are left are nested so
pub record IsNesting (ls left : List Lexeme) (ts : List Tree) (starts : List ℕ) : Type 0 where
  pub at : ℕ
  pub rest : drop at ls ≡ reverse left
  pub layered : IsLayered ls at ts starts

-- at the first word
pub first_nesting : (ls left : List Lexeme) → left ≡ reverse ls → is_balanced 0 (marks ls) ≡ true → IsNesting ls left [] []
first_nesting ls left e balanced = record {
  at = 0;
  rest = sym (ap reverse e ∙ reverse-reverse ls);
  layered = first_layer ls (record { stacked = innermost none [] nothing; balanced = balanced });
}

-- at the end all is written
pub all_nested : (ls left : List Lexeme) (ts : List Tree) (starts : List ℕ) → length left ≡ 0 → IsNesting ls left ts starts → SpellAll (nesteds (map nested ts)) ls
all_nested ls left ts starts e here = all_layers ls here.at ts starts (used_up ls left here.at e here.rest) here.layered

module _ (ls all left : List Lexeme) (l : Lexeme) (e : all ≡ left ++ l ∷ []) (ts : List Tree) (starts : List ℕ) (here : IsNesting ls all ts starts) where
  next : IsNext ls here.at l (reverse left)
  next = is_next ls all left here.at l here.rest e

  pub nesting_word : (l.mark ≡ Open → ⊥) → (l.mark ≡ Close → ⊥) → IsNesting ls left (ts ++ Word l ∷ []) starts
  nesting_word o c = record {
    at = here.at + 1;
    rest = next.after;
    layered = layer_word ls here.at l next.within next.here ts starts here.layered o c;
  }

  pub nesting_open : l.mark ≡ Open → IsNesting ls left ts (starts ++ length ts ∷ [])
  nesting_open o = record {
    at = here.at + 1;
    rest = next.after;
    layered = layer_open ls here.at l next.within next.here ts starts here.layered o;
  }

  -- where a parenthesis closes, one is open
  pub nesting_left : length starts ≡ 0 → l.mark ≡ Close → ⊥
  nesting_left flat c = layer_left ls here.at l next.within next.here ts starts here.layered flat c

  pub nesting_within : (below : List ℕ) (start : ℕ) → starts ≡ below ++ start ∷ [] → start ≤ length ts
  nesting_within below start is = layer_within ls here.at l next.within next.here ts starts here.layered below start is

  pub nesting_close : (below : List ℕ) (start : ℕ) (inside : Nesteds) → starts ≡ below ++ start ∷ [] → inside ≡ nesteds (map nested (drop start ts)) → l.mark ≡ Close → IsNesting ls left (take start ts ++ Group inside ∷ []) below
  nesting_close below start inside is is_inside c = record {
    at = here.at + 1;
    rest = next.after;
    layered = layer_close ls here.at l next.within next.here ts starts here.layered below start inside is is_inside c;
  }
