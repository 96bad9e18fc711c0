-- Lines written one piece after another.
use Rattle.std.proofs.Common.{◌≡◌, ℕ, ◌+◌, ◌<◌, List, [], ◌∷◌, ◌++◌, length, drop, get_or, refl, append_assoc, add-one, drop-cons, arith}
use Rattle.std.specs.List.{flat_map}
use Rattle.std.proofs.lemmas.Grind.{flat_map-append}
use Rattle.ps_world.specs.Lines.{line_end}

-- what begins a line, what it says, and its end
pub line_of : (old head said ending x y z : List ℕ) → x ≡ old ++ head → y ≡ x ++ said → z ≡ y ++ ending → z ≡ old ++ ((head ++ said) ++ ending)
line_of old head said ending x y z p q r = rw (r, q, p) (simp append_assoc)

-- the same, where something closes what the line says
pub closed_line_of : (old head said close ending x y z : List ℕ) → x ≡ old ++ head → y ≡ x ++ said → z ≡ y ++ (close ++ ending) → z ≡ old ++ ((head ++ (said ++ close)) ++ ending)
closed_line_of old head said close ending x y z p q r = rw (r, q, p) (simp append_assoc)

-- lines, each with its end
abbrev pub lines_text : List (List ℕ) → List ℕ
lines_text lines = flat_map (λ line. line ++ line_end) lines

-- five lines, one after another
pub five_lines : (lines : List (List ℕ)) (old p q r s t : List ℕ) → length lines ≡ 5 → p ≡ old ++ (get_or lines 0 [] ++ line_end) → q ≡ p ++ (get_or lines 1 [] ++ line_end) → r ≡ q ++ (get_or lines 2 [] ++ line_end) → s ≡ r ++ (get_or lines 3 [] ++ line_end) → t ≡ s ++ (get_or lines 4 [] ++ line_end) → t ≡ old ++ lines_text lines
five_lines (a ∷ b ∷ c ∷ d ∷ e ∷ []) old p q r s t n f g h i j = rw (j, i, h, g, f) (simp append_assoc)
five_lines lines old p q r s t n f g h i j = absurd (omega arith)

-- what an item adds is what stands before that of the rest
pub lines_go_on : {A : Type 0} (f : A → List (List ℕ)) (xs : List A) (i : ℕ) (x : A) (old new whole : List ℕ) → i < length xs → x ≡ get_or xs i x → old ++ lines_text (flat_map f (drop i xs)) ≡ whole → new ≡ old ++ lines_text (f x) → new ++ lines_text (flat_map f (drop (i + 1) xs)) ≡ whole
lines_go_on f xs i x old new whole within at before added =
    let split : drop i xs ≡ x ∷ drop (i + 1) xs = rw (add-one, drop-cons xs i x, ← at) refl in
    let rest = flat_map f (drop (i + 1) xs) in
    rw (added, append_assoc, ← flat_map-append (λ (line : List ℕ). line ++ line_end) (f x) rest) (rw split at before)

-- after a text a first line, five lists of lines, and a last line
pub all_lines : (first last : List ℕ) (a b c d e : List (List ℕ)) (o p q r s t u v : List ℕ) → p ≡ o ++ (first ++ line_end) → q ≡ p ++ lines_text a → r ≡ q ++ lines_text b → s ≡ r ++ lines_text c → t ≡ s ++ lines_text d → u ≡ t ++ lines_text e → v ≡ u ++ (last ++ line_end) → v ≡ o ++ lines_text (first ∷ (a ++ (b ++ (c ++ (d ++ (e ++ last ∷ []))))))
all_lines first last a b c d e o p q r s t u v g h i j k l m = rw (m, l, k, j, i, h, g) (simp (flat_map-append, append_assoc))
