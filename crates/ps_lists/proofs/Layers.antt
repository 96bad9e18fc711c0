-- What stands between parentheses that aren't closed yet, kept in one list, the innermost last, with the place at which each begins.
use Rattle.std.proofs.Common.{◌≡◌, ℕ, ◌+◌, ◌<◌, ◌≤◌, List, [], ◌∷◌, ◌++◌, take, drop, length, map, slice_index_or, refl, sym, ◌∙◌, subst, append_assoc, append-nil, length-append, arith}
use Rattle.std.proofs.Math.Seq.{take-append_seam, drop-append_seam}
use Rattle.ps_grammar.specs.declared.marks.Mark.TheVariants.{Open, Close}
use Rattle.ps_lists.specs.Nested.{Nesteds, word, group, none, followed, nesteds}
use Rattle.ps_lists.specs.NestedViews.{nested}
use Rattle.ps_lists.specs.Spelling.{SpellAll}
use Rattle.ps_lists.specs.declared.lexemes.Lexeme.{Lexeme}
use Rattle.ps_lists.specs.declared.trees.Tree.{Tree}
use Rattle.ps_lists.specs.declared.trees.Tree.TheVariants.{Word, Group}
use Rattle.ps_lists.proofs.Stacks.{nesteds_more}
use Rattle.ps_lists.proofs.Unfinished.{IsUnfinished, all_closed, finished, next_close, next_open, next_word, some_open}

-- these trees, cut at these places, are what stands before each open parenthesis and what stands after the last
pub data Layered : List Tree → List ℕ → List Nesteds → Nesteds → Type 0 where
  ground : (ts : List Tree) → Layered ts [] [] (nesteds (map nested ts))
  above : (ts us : List Tree) (starts : List ℕ) (outer : List Nesteds) (vs : Nesteds) → Layered ts starts outer vs → Layered (ts ++ us) (starts ++ length ts ∷ []) (outer ++ vs ∷ []) (nesteds (map nested us))

-- the words up to a place are so, and those that are left close what is open
pub record IsLayered (ls : List Lexeme) (i : ℕ) (ts : List Tree) (starts : List ℕ) : Type 0 where
  pub outer : List Nesteds
  pub inner : Nesteds
  pub layers : Layered ts starts outer inner
  pub unfinished : IsUnfinished ls i outer inner

layered_more : (ts : List Tree) (starts : List ℕ) (outer : List Nesteds) (vs : Nesteds) (t : Tree) → Layered ts starts outer vs → Layered (ts ++ t ∷ []) starts outer (followed vs (nested t))
layered_more _ _ _ _ t (ground ts) = subst (λ (x : Nesteds). Layered (ts ++ t ∷ []) [] [] x) (nesteds_more ts t) (ground (ts ++ t ∷ []))
layered_more _ _ _ _ t (above ts us starts outer vs below) =
    subst (λ (x : List Tree). Layered x (starts ++ length ts ∷ []) (outer ++ vs ∷ []) (followed (nesteds (map nested us)) (nested t))) (sym (append_assoc ts us (t ∷ [])))
    (subst (λ (x : Nesteds). Layered (ts ++ (us ++ t ∷ [])) (starts ++ length ts ∷ []) (outer ++ vs ∷ []) x) (nesteds_more us t) (above ts (us ++ t ∷ []) starts outer vs below))

layered_open : (ts : List Tree) (starts : List ℕ) (outer : List Nesteds) (vs : Nesteds) → Layered ts starts outer vs → Layered ts (starts ++ length ts ∷ []) (outer ++ vs ∷ []) none
layered_open ts starts outer vs below = subst (λ (x : List Tree). Layered x (starts ++ length ts ∷ []) (outer ++ vs ∷ []) none) (append-nil ts) (above ts [] starts outer vs below)

-- what is told of a list that ends so
pub some_end : {A : Type 0} (xs : List A) (x : A) → xs ++ x ∷ [] ≡ [] → ⊥
some_end [] x e = absurd (cc)
some_end (y ∷ xs) x e = absurd (cc)

front_same : {A : Type 0} (xs ys : List A) (x y : A) → xs ++ x ∷ [] ≡ ys ++ y ∷ [] → xs ≡ ys
front_same [] [] x y e = refl
front_same [] (b ∷ ys) x y e = absurd (some_end ys y (cc))
front_same (a ∷ xs) [] x y e = absurd (some_end xs x (cc))
front_same (a ∷ xs) (b ∷ ys) x y e =
    let first : a ≡ b = cc in
    let rest : xs ≡ ys = front_same xs ys x y (cc) in
    cc

last_same : {A : Type 0} (xs ys : List A) (x y : A) → xs ++ x ∷ [] ≡ ys ++ y ∷ [] → x ≡ y
last_same [] [] x y e = cc
last_same [] (b ∷ ys) x y e = absurd (some_end ys y (cc))
last_same (a ∷ xs) [] x y e = absurd (some_end xs x (cc))
last_same (a ∷ xs) (b ∷ ys) x y e = last_same xs ys x y (cc)

-- what the innermost parenthesis holds, and what lies below it
pub record IsTopped (ts : List Tree) (left : List ℕ) (start : ℕ) (outer : List Nesteds) (us : Nesteds) : Type 0 where
  pub around : List Nesteds
  pub before : Nesteds
  pub is_outer : outer ≡ around ++ before ∷ []
  pub is_inner : us ≡ nesteds (map nested (drop start ts))
  pub within : start ≤ length ts
  pub below : Layered (take start ts) left around before

topped : (ts : List Tree) (starts left : List ℕ) (start : ℕ) (outer : List Nesteds) (us : Nesteds) → starts ≡ left ++ start ∷ [] → Layered ts starts outer us → IsTopped ts left start outer us
topped _ _ left start _ _ e (ground ts) = absurd (some_end left start (sym e))
topped _ _ left start _ _ e (above ts us starts outer vs below) =
    let place : length ts ≡ start = last_same starts left (length ts) start e in
    let front : starts ≡ left = front_same starts left (length ts) start e in
    record {
      around = outer;
      before = vs;
      is_outer = refl;
      is_inner = rw (sym place, drop-append_seam ts us) refl;
      within = omega (arith, place, length-append ts us);
      below = rw (sym place, take-append_seam ts us, sym front) below;
    }

-- at the first word
pub first_layer : (ls : List Lexeme) → IsUnfinished ls 0 [] none → IsLayered ls 0 [] []
first_layer ls start = record { outer = []; inner = none; layers = ground []; unfinished = start }

-- where nothing is cut, no parenthesis is open
uncut : (ts : List Tree) (starts : List ℕ) (outer : List Nesteds) (us : Nesteds) → length starts ≡ 0 → Layered ts starts outer us → outer ≡ []
uncut _ _ _ _ e (ground ts) = refl
uncut _ _ _ _ e (above ts us starts outer vs below) = absurd (omega (arith, e, length-append starts (length ts ∷ [])))

-- where no parenthesis is open, the trees are what stands there
unopened : (ts : List Tree) (starts : List ℕ) (outer : List Nesteds) (us : Nesteds) → outer ≡ [] → Layered ts starts outer us → us ≡ nesteds (map nested ts)
unopened _ _ _ _ e (ground ts) = refl
unopened _ _ _ _ e (above ts us starts outer vs below) = absurd (some_end outer vs e)

-- at the end all is written
pub all_layers : (ls : List Lexeme) (i : ℕ) (ts : List Tree) (starts : List ℕ) → length ls ≤ i → IsLayered ls i ts starts → SpellAll (nesteds (map nested ts)) ls
all_layers ls i ts starts h here =
    let closed = all_closed ls i here.outer here.inner h here.unfinished in
    subst (λ (x : Nesteds). SpellAll x ls) (unopened ts starts here.outer here.inner closed here.layers) (finished ls i here.outer here.inner h here.unfinished)

module _ (ls : List Lexeme) (i : ℕ) (l : Lexeme) (lt : i < length ls) (is : l ≡ slice_index_or ls i l) (ts : List Tree) (starts : List ℕ) (here : IsLayered ls i ts starts) where
  pub layer_word : (l.mark ≡ Open → ⊥) → (l.mark ≡ Close → ⊥) → IsLayered ls (i + 1) (ts ++ Word l ∷ []) starts
  layer_word o c = record {
    outer = here.outer;
    inner = followed here.inner (word l);
    layers = layered_more ts starts here.outer here.inner (Word l) here.layers;
    unfinished = next_word ls i l lt is here.outer here.inner here.unfinished o c;
  }

  pub layer_open : l.mark ≡ Open → IsLayered ls (i + 1) ts (starts ++ length ts ∷ [])
  layer_open o = record {
    outer = here.outer ++ here.inner ∷ [];
    inner = none;
    layers = layered_open ts starts here.outer here.inner here.layers;
    unfinished = next_open ls i l lt is here.outer here.inner here.unfinished o;
  }

  -- where a parenthesis closes, one is open
  pub layer_left : length starts ≡ 0 → l.mark ≡ Close → ⊥
  layer_left e c =
      let flat = uncut ts starts here.outer here.inner e here.layers in
      some_open ls i l here.inner lt is c (subst (λ (x : List Nesteds). IsUnfinished ls i x here.inner) flat here.unfinished)

  pub layer_within : (left : List ℕ) (start : ℕ) → starts ≡ left ++ start ∷ [] → start ≤ length ts
  layer_within left start e = (topped ts starts left start here.outer here.inner e here.layers).within

  pub layer_close : (left : List ℕ) (start : ℕ) (inside : Nesteds) → starts ≡ left ++ start ∷ [] → inside ≡ nesteds (map nested (drop start ts)) → l.mark ≡ Close → IsLayered ls (i + 1) (take start ts ++ Group inside ∷ []) left
  layer_close left start inside e is_inside c =
      let top = topped ts starts left start here.outer here.inner e here.layers in
      let same : here.inner ≡ inside = top.is_inner ∙ sym is_inside in
      record {
        outer = top.around;
        inner = followed top.before (group inside);
        layers = layered_more (take start ts) left top.around top.before (Group inside) top.below;
        unfinished = subst (λ (x : Nesteds). IsUnfinished ls (i + 1) top.around (followed top.before (group x))) same (next_close ls i l lt is here.outer here.inner here.unfinished top.around top.before top.is_outer c);
      }
