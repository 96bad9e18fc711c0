-- The file that a line names, by what is tested.
use Rattle.std.proofs.Common.{◌≡◌, ℕ, ◌==◌, Bool, true, false, not, ◌&&◌, if◌then◌else◌, List, length, None, Some, refl, sym, ◌∙◌, ap}
use Rattle.std.specs.Str.{IsUtf8, is_utf8}
use Rattle.std.proofs.lemmas.Str.{IsUtf8-from_is_utf8, is_utf8-from_IsUtf8}
use Rattle.ps_script.specs.Files.{file_in, trimmed, without_end}

by_tests : (name : List ℕ) (empty utf : Bool) → (length name == 0) ≡ empty → is_utf8 name ≡ utf → (if not (length name == 0) && is_utf8 name then Some name else None) ≡ (if not empty && utf then Some name else None)
by_tests name empty utf e u = rw (e, u) refl

-- a name that isn't empty, and is UTF-8
pub file_there : (rest name text : List ℕ) → name ≡ without_end (trimmed rest) → (length name == 0) ≡ false → text ≡ name → IsUtf8 name → Some text ≡ file_in rest
file_there rest name text is e same utf =
    ap (λ t. Some t) same ∙ sym (by_tests name false true e (is_utf8-from_IsUtf8 name utf)) ∙ ap (λ n. if not (length n == 0) && is_utf8 n then Some n else None) is

not_utf8 : (name : List ℕ) (b : Bool) → is_utf8 name ≡ b → (IsUtf8 name → ⊥) → is_utf8 name ≡ false
not_utf8 name false e other = e
not_utf8 name true e other = absurd (other (IsUtf8-from_is_utf8 name e))

-- a name that isn't UTF-8
pub file_wrong : (rest name : List ℕ) → name ≡ without_end (trimmed rest) → (length name == 0) ≡ false → (IsUtf8 name → ⊥) → None ≡ file_in rest
file_wrong rest name is e other =
    sym (by_tests name false false e (not_utf8 name (is_utf8 name) refl other)) ∙ ap (λ n. if not (length n == 0) && is_utf8 n then Some n else None) is
