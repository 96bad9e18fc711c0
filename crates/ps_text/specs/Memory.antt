-- Texts that are held in memory by their names.
use Rattle.std.specs.Prelude.{◌≡◌, ℕ, List, [], Option, None, Some, if◌then◌else◌, option_map, unwrap_or, bytes_eq}
use Rattle.indexmap.specs.IndexMap.{get_by_text}
use Rattle.ps_text.specs.Outside.{Told}
use Rattle.ps_text.specs.Outside.Told.{absent, text}
use Rattle.ps_text.specs.declared.memory.texts.Texts.{Texts}

-- the text under a name, where it is there
abbrev pub text_in : Texts → List ℕ → Option (List ℕ)
text_in texts name = option_map (λ v. v.items) (get_by_text texts.by_name name)

-- what such a text tells: that it is there, or that there is none
abbrev pub told_by : Option (List ℕ) → Told
told_by None = absent
told_by (Some t) = text t

-- what is told of a name
abbrev pub told_in : Texts → List ℕ → Told
told_in texts name = told_by (text_in texts name)

-- the text under a name, or the empty text
abbrev pub sure_text_in : Texts → List ℕ → List ℕ
sure_text_in texts name = unwrap_or (text_in texts name) []

-- what each name has, where this name has this now, and each other name what it had
abbrev pub PutsText : {A : Type 0} → (List ℕ → A) → (List ℕ → A) → List ℕ → A → Type 0
PutsText old new name value = (n : List ℕ) → new n ≡ (if bytes_eq name n then value else old n)

-- each name keeps what it has
abbrev pub KeepsTexts : {A : Type 0} → (List ℕ → A) → (List ℕ → A) → Type 0
KeepsTexts old new = (n : List ℕ) → new n ≡ old n
