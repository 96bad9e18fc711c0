use Rattle.std.proofs.Common.{Some, ap, ◌∙◌, ◌≡◌, Bool, true, false, cond, List, ℕ, Option, refl}
use Rattle.std.proofs.lemmas.Map.Text.{hash_map_updates_text}
use Rattle.std.specs.Option.{option_map}
use Rattle.std.specs.Str.{bytes_eq}
use Rattle.std.specs.String.{string_bytes}
use Rattle.ps_text.specs.Memory.{text_in}
use Rattle.ps_text.proofs.memory.texts.Texts.put.Goals as goal

-- the text of a value that one name has
option_map-cond : {V : Type 0} (items : V → List ℕ) (b : Bool) (v : V) (bytes : List ℕ) (o : Option V) → items v ≡ bytes → option_map items (cond b (Some v) o) ≡ cond b (Some bytes) (option_map items o)
option_map-cond items true v bytes o e = ap Some e
option_map-cond items false v bytes o e = refl

pub returns-clause-ok : goal.returns-clause-ok
returns-clause-ok c = λ n.
    let e = hash_map_updates_text (string_bytes c.in_ok-key.key) c.args.self.now.by_name c.insert.new.self (Some c.in_ok-text.text) c.in_ok-insert.ensures.updates n in
    ap (option_map (λ v. v.items)) e
    ∙ option_map-cond (λ v. v.items) _ c.in_ok-text.text c.args.bytes.now _ c.in_ok-text.ensures.items
    ∙ ap (λ name. cond (bytes_eq name n) (Some c.args.bytes.now) (text_in c.args.self.now n)) c.in_ok-key.ensures.ok
