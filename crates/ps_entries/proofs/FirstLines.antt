-- The first lines of a text are those of its beginning.
use Rattle.std.proofs.Common.{◌≡◌, ℕ, zero, suc, Bool, true, false, List, [], ◌∷◌, ◌==◌, take, drop, Option, Some, None, Result, Ok, Err, IfOk, refl, sym, ap, ◌∙◌, subst}
use Rattle.ps_world.specs.Lines.{lengthened, lines_of}
use Rattle.ps_rules.specs.Heads.{Settings, settings_line, title}
use Rattle.ps_entries.specs.FirstLines.{lines_end}
use Rattle.ps_entries.specs.Journals.{HasSettings}

lengthened-take : (k : ℕ) (b : ℕ) (lines : List (List ℕ)) → lengthened b (take (suc k) lines) ≡ take (suc k) (lengthened b lines)
lengthened-take zero b [] = refl
lengthened-take (suc k) b [] = refl
lengthened-take k b (line ∷ lines) = refl

at_byte : (k b : ℕ) (bs : List ℕ) (t : Bool) → (b == 10) ≡ t → lines_of (take (lines_end k bs) bs) ≡ take k (lines_of bs) → lines_of (take (lines_end (suc k) bs) bs) ≡ take (suc k) (lines_of bs)
    → lines_of (take (lines_end (suc k) (b ∷ bs)) (b ∷ bs)) ≡ take (suc k) (lines_of (b ∷ bs))
at_byte k b bs true e ended more = rw (e, e) (ap (λ lines. [] ∷ lines) ended)
at_byte k b bs false e ended more = rw (e, e) (ap (lengthened b) more ∙ lengthened-take k b (lines_of bs))

pub lines_end-taken : (k : ℕ) (bs : List ℕ) → lines_of (take (lines_end k bs) bs) ≡ take k (lines_of bs)
lines_end-taken zero [] = refl
lines_end-taken zero (b ∷ bs) = refl
lines_end-taken (suc k) [] = refl
lines_end-taken (suc k) (b ∷ bs) = at_byte k b bs (b == 10) refl (lines_end-taken k bs) (lines_end-taken (suc k) bs)

first-two : (lines : List (List ℕ)) (a b : List ℕ) (rest : List (List ℕ)) → take 2 lines ≡ a ∷ b ∷ rest → lines ≡ a ∷ b ∷ drop 2 lines
first-two [] a b rest e = absurd (cc)
first-two (x ∷ []) a b rest e = absurd (cc)
first-two (x ∷ y ∷ more) a b rest e = cc

first-settings : (text : List ℕ) (o : Option Settings) → HasSettings (take (lines_end 2 text) text) o → HasSettings text o
first-settings text (Some s) h = (h.0, (drop 2 (lines_of text), first-two (lines_of text) title (settings_line s) h.1.0 (sym (lines_end-taken 2 text) ∙ h.1.1)))
first-settings text None h = λ s rest good. λ e. h s [] good (lines_end-taken 2 text ∙ ap (take 2) e)

-- what the first two lines say, the text says
pub first-answer : {E : Type 0} (text : List ℕ) (n : ℕ) (r : Result (Option Settings) E) → n ≡ lines_end 2 text → IfOk r (HasSettings (take n text)) → IfOk r (HasSettings text)
first-answer text n (Ok o) is h = first-settings text o (subst (λ m. HasSettings (take m text) o) is h)
first-answer text n (Err e) is h = tt
