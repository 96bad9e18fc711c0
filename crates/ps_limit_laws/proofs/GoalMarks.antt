-- Marks that symbols derive, without too many levels.
use Rattle.std.proofs.Common.{◌≡◌, suc, ◌<◌, true, List, [], ◌∷◌, ◌++◌, take, Some, slice_get, unwrap_or, refl, sym, ap, subst, inl, inr}
use Rattle.std.specs.Option.{option_and_then}
use Rattle.std.proofs.lemmas.Bool.{cases_lt}
use Rattle.ps_grammar.specs.Rules.{step}
use Rattle.ps_grammar.specs.Shape.{Derives, IsShallowFrom, OpensTooMany, deepest, opens_level, run}
use Rattle.ps_grammar.specs.Shape.Derives.{nothing, by_rule}
use Rattle.ps_grammar.specs.Symbols.{level}
use Rattle.ps_grammar.specs.declared.marks.Mark.{Mark}
use Rattle.ps_grammar.specs.declared.marks.Mark.TheVariants.{Open}
use Rattle.ps_grammar.specs.declared.symbols.Symbol.{Symbol}

-- the mark may stand where so many levels are open
abbrev pub HasRoom : List Symbol → Mark → Type 0
HasRoom st m = m ≡ Open → level st < deepest

-- the symbols derive the marks, and none of these opens too many levels
pub data Runs : List Symbol → List Mark → Type 0 where
  ends : Runs [] []
  goes : (s : Symbol) (st : List Symbol) (m : Mark) (ms : List Mark) (new : List Symbol) → step s m ≡ Some new → HasRoom (s ∷ st) m → Runs (new ++ st) ms → Runs (s ∷ st) (m ∷ ms)

room_of : (s : Symbol) (st : List Symbol) (m : Mark) (ms : List Mark) → IsShallowFrom (s ∷ st) (m ∷ ms) → HasRoom (s ∷ st) m
room_of s st m ms flat opens =
    elim (cases_lt (level (s ∷ st)) deepest) [
      | inl h ↦ h
      | inr h ↦ absurd (flat 0 (subst (λ (x : Mark). opens_level (s ∷ st) (Some x) ≡ true) (sym opens) refl, h))
    ]

later_flat : (s : Symbol) (st : List Symbol) (m : Mark) (ms : List Mark) (new : List Symbol) → step s m ≡ Some new → IsShallowFrom (s ∷ st) (m ∷ ms) → IsShallowFrom (new ++ st) ms
later_flat s st m ms new leads flat at deep =
    let same : run (s ∷ st) (m ∷ take at ms) ≡ run (new ++ st) (take at ms) = ap (λ o. option_and_then (λ next. run next (take at ms)) (option_and_then (λ x. Some (x ++ st)) o)) leads in
    flat (suc at) (subst (λ o. OpensTooMany (unwrap_or o []) (slice_get ms at)) (sym same) deep)

pub runs_of : (st : List Symbol) (ms : List Mark) → Derives st ms → IsShallowFrom st ms → Runs st ms
runs_of _ _ nothing flat = ends
runs_of _ _ (by_rule s st m ms new leads rest) flat =
    goes s st m ms new leads (room_of s st m ms flat) (runs_of (new ++ st) ms rest (later_flat s st m ms new leads flat))
