-- Command lines that name no file, read one after another.
use Rattle.std.proofs.Common.{◌≡◌, ℕ, ◌+◌, ◌<◌, ◌≤◌, List, [], ◌∷◌, ◌++◌, length, map, take, slice_index_or, append_assoc, refl, sym, ap, ◌∙◌, subst, arith}
use Rattle.std.proofs.lemmas.List.{append-nil, length-append, map-append, take_more}
use Rattle.std.specs.Global.{Vec}
use Rattle.ps_world.specs.Names.{Table}
use Rattle.ps_machine.specs.declared.inputs.Line.{Line}
use Rattle.ps_gen.specs.Texts.{texts_of}
use Rattle.ps_inputs.specs.Flats.{Flattened}
use Rattle.ps_inputs.specs.Flats.Flattened.{plain}
use Rattle.ps_inputs.specs.Scripts.IsScript.{nothing, one_more}
use Rattle.ps_inputs.specs.Scripts.{IsScript}
use Rattle.ps_inputs.specs.Parts.{ArePushed, IsPushed, IsScriptFrom}
use Rattle.ps_inputs.specs.declared.reading.scripts.Script.{Script}

-- no command line
pub none_pushed : (script : Script) → ArePushed [] script script
none_pushed script = ([], nothing, sym (append-nil script.lines.items), refl)

-- one command line more
one_pushed : (commands : List (List ℕ)) (bytes : List ℕ) (first middle last : Script) → ArePushed commands first middle → IsPushed bytes middle last → ArePushed (commands ++ bytes ∷ []) first last
one_pushed commands bytes first middle last before one =
    let lines : List Line = before.0 ++ one.0 ∷ [] in
    let script : IsScript first.names (map plain commands ++ plain bytes ∷ []) lines last.names = one_more (map plain commands) before.0 middle.names (plain bytes) (one.0 ∷ []) last.names before.1 (one.0, one.1, refl) in (
      lines,
      subst (λ (fs : List Flattened). IsScript first.names fs lines last.names) (sym (map-append plain commands (bytes ∷ []))) script,
      one.2 ∙ ap (λ (ls : List Line). ls ++ one.0 ∷ []) before.2 ∙ append_assoc first.lines.items before.0 (one.0 ∷ []),
      omega (arith, length-append before.0 (one.0 ∷ []), length-append commands (bytes ∷ []), before.3),
    )

-- the command line at a place is read after those before it
pub next_pushed : (texts : List (Vec ℕ)) (i : ℕ) (d : Vec ℕ) (bytes : List ℕ) (first middle last : Script) → i < length texts → bytes ≡ (slice_index_or texts i d).items → ArePushed (texts_of (take i texts)) first middle → IsPushed bytes middle last → ArePushed (texts_of (take (i + 1) texts)) first last
next_pushed texts i d bytes first middle last lt here before one =
    let more : texts_of (take (i + 1) texts) ≡ texts_of (take i texts) ++ bytes ∷ [] =
    ap texts_of (take_more texts i d lt) ∙ (map-append (λ text. text.items) (take i texts) (slice_index_or texts i d ∷ []) ∙ ap (λ (b : List ℕ). texts_of (take i texts) ++ b ∷ []) (sym here)) in
    subst (λ (commands : List (List ℕ)). ArePushed commands first last) (sym more) (one_pushed (texts_of (take i texts)) bytes first middle last before one)

-- command lines that are read from the first on are a script
pub script_pushed : (names : Table) (texts : List (Vec ℕ)) (commands : List (List ℕ)) (first last : Script) → first.names ≡ names → first.lines.items ≡ [] → texts_of texts ≡ commands → length commands ≤ 10000 → ArePushed (texts_of texts) first last → IsScriptFrom names (map plain commands) last
script_pushed names texts commands first last same none these few pushed =
    let all : last.lines.items ≡ pushed.0 = pushed.2 ∙ ap (λ (ls : List Line). ls ++ pushed.0) none in
    let read : IsScript first.names (map plain commands) pushed.0 last.names = subst (λ (cs : List (List ℕ)). IsScript first.names (map plain cs) pushed.0 last.names) these pushed.1 in
    record {
      read = subst (λ (t : Table). IsScript t (map plain commands) last.lines.items last.names) same (subst (λ (ls : List Line). IsScript first.names (map plain commands) ls last.names) (sym all) read);
      few = omega (arith, ap length all, pushed.3, ap length these, few);
    }
