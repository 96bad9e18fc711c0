-- On which request a performer is engaged.
use Rattle.std.specs.Prelude.{◌≡◌, ℕ, ◌↔◌, Bool, not, ◌&&◌, ◌||◌, Some, List, IsTrue}
use Rattle.ps_world.specs.declared.names.Name.{Name}
use Rattle.ps_machine.specs.declared.inputs.Input.{Input}
use Rattle.ps_machine.specs.declared.journal.Entry.{Entry}
use Rattle.ps_rules.specs.Auctions.{act_of, has_offered, is_engaged, is_rejected, is_through}
use Rattle.ps_rules.specs.Legal.{is_confirmed}
use Rattle.ps_rules.specs.History.{IsHistory}

-- whether a performer is engaged on a request: it offered there and was neither rejected nor confirmed, or was confirmed there and has
-- neither finished nor stopped
abbrev pub is_engaged_on : ℕ → Name → List Entry → Bool
is_engaged_on r p es =
    (has_offered r p es && (not (is_rejected r p es) && not (is_confirmed r p es)))
    || (is_confirmed r p es && not (is_through r p es))

-- a performer is engaged exactly where it is engaged on some request, which is the only one, and is for an act of the present plan
pub record IsEngagedOnOne (p : Name) (es : List Entry) : Type 0 where
  pub on_some : IsTrue (is_engaged p es) ↔ ((r : ℕ) × IsTrue (is_engaged_on r p es))
  pub on_one : (r s : ℕ) → IsTrue (is_engaged_on r p es) → IsTrue (is_engaged_on s p es) → r ≡ s
  pub planned : (r : ℕ) → IsTrue (is_engaged_on r p es) → (act : ℕ) × (act_of r es ≡ Some act)

-- in every history each performer is engaged exactly where it is so on some request, and it is so on one request at a time
abbrev pub EngagedOnOne : Type 0
EngagedOnOne = (i : Input) (es : List Entry) → IsHistory i es → (p : Name) → IsEngagedOnOne p es
