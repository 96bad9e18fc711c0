-- Laws of audits.
use Rattle.std.specs.Prelude.{◌≡◌, ℕ, is_some, List, sum_by}
use Rattle.std.specs.Bool.{Decides}
use Rattle.std.specs.List.{range_with_len}
use Rattle.ps_world.specs.declared.names.Name.{Name}
use Rattle.ps_machine.specs.declared.inputs.Input.{Input}
use Rattle.ps_machine.specs.declared.members.Unit.{Unit as Task}
use Rattle.ps_machine.specs.declared.journal.Entry.{Entry}
use Rattle.ps_rules.specs.Auctions.{has_begun, requests}
use Rattle.ps_rules.specs.History.{IsHistory}
use Rattle.ps_rules.specs.Members.{performers}
use Rattle.ps_rules.specs.Sound.{IsSound}
use Rattle.ps_hub.specs.declared.report.Report.{Report}
use Rattle.ps_hub.specs.Reports.{IsNumbered}
use Rattle.ps_reports.specs.Audit.{all_recorded, firsts}
use Rattle.ps_legal.specs.Same.{same_unit}
use Rattle.ps_reports.specs.Stints.{recorded, turn_on}

-- sameness of units decides equality
abbrev pub SamenessDecides : Type 0
SamenessDecides = (u v : Task) → Decides (same_unit u v) (u ≡ v)

-- a performer has a turn on a request exactly where it has begun there
abbrev pub TurnsAreBegun : Type 0
TurnsAreBegun = (r : ℕ) (p : Name) (h : List Entry) → is_some (turn_on r p h) ≡ has_begun r p h

-- a numbered list has no two reports of one performer and request with one number
abbrev pub NumberedStandOnce : Type 0
NumberedStandOnce = (rs : List Report) → IsNumbered rs → firsts rs ≡ rs

-- how many units of a performer are recorded, on so many requests
abbrev pub recorded_of : List Entry → ℕ → Name → ℕ
recorded_of h n p = sum_by (λ r. recorded h r p) (range_with_len 0 n)

-- the sum of what is recorded, over so many requests and all performers
abbrev pub sum_recorded : Input → List Entry → ℕ → ℕ
sum_recorded i h n = sum_by (λ p. recorded_of h n p.name) (performers i)

-- In a history of a sound input, as many units are recorded as the sum over all requests and performers comes to.
abbrev pub AllAreSummed : Type 0
AllAreSummed = (i : Input) (h : List Entry) → IsSound i → IsHistory i h → all_recorded i h ≡ sum_recorded i h (requests h)
