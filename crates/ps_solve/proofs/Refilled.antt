-- Words that are put back in the place of as many.
use Rattle.std.proofs.Common.{◌≡◌, ℕ, ◌++◌, List, length, set, take, ap, ◌∙◌, arith}
use Rattle.std.specs.List.{refill}
use Rattle.std.proofs.lemmas.List.{append-nil, drop_all, length-set, take_all}

-- they are what is put in
pub refilled : (xs ws : List ℕ) → length ws ≡ length xs → refill (length xs) xs ws ≡ ws
refilled xs ws same =
    ap (λ l. take (length xs) (ws ++ l)) (drop_all (length ws) xs (omega (arith, same)))
    ∙ ap (take (length xs)) (append-nil ws)
    ∙ take_all (length xs) ws (omega (arith, same))

-- so it is where one word is set
pub refilled_at : (words there : List ℕ) (j x : ℕ) → there ≡ words → refill (length words) words (set there j x) ≡ set words j x
refilled_at words there j x same = refilled words (set there j x) (length-set there j x ∙ ap (λ (l : List ℕ). length l) same) ∙ ap (λ (l : List ℕ). set l j x) same
