-- What is kept of performers and observers, each at the place of its name.
use Rattle.std.specs.Prelude.{◌≡◌, ℕ, suc, ◌+◌, ◌&&◌, nat_lt, Bool, true, false, if◌then◌else◌, List, [], ◌∷◌, length, slice_index_or}
use Rattle.ps_world.specs.Names.{same_name}
use Rattle.ps_world.specs.declared.names.Name.{Name}
use Rattle.ps_machine.specs.declared.journal.By.TheVariants as by
use Rattle.ps_machine.specs.declared.journal.Event.{Event}
use Rattle.ps_machine.specs.declared.journal.Event.TheVariants as event
use Rattle.ps_machine.specs.declared.journal.Entry.{Entry}
use Rattle.ps_rules.specs.Auctions.{begins, is_engaged}
use Rattle.ps_rules.specs.Members.{observed}
use Rattle.ps_ledger.specs.Kept.{put}
use Rattle.ps_ledger.specs.declared.members.Performers.{Performers}
use Rattle.ps_ledger.specs.declared.members.Observers.{Observers}

-- the first place of a name, or how many names there are
abbrev pub place_in : List Name → Name → ℕ
place_in [] p = 0
place_in (q ∷ qs) p = if same_name p q then 0 else suc (place_in qs p)

-- what is kept at the place of a name, or what is told of a name that has no place
abbrev pub at_name : {A : Type 0} → List Name → List A → Name → A → A
at_name names xs p none = slice_index_or xs (place_in names p) none

-- these values with another one at the place of a name, and with the number at its place one higher
abbrev pub with_named : {A : Type 0} → List Name → List A → Name → A → List A
with_named names xs p x = put xs (place_in names p) x

abbrev pub with_rise : List Name → List ℕ → Name → List ℕ
with_rise names xs p = with_named names xs p (at_name names xs p 0 + 1)

-- how often a performer has begun, and how many units an observer has done
abbrev pub begun_by : Performers → Name → ℕ
begun_by l p = at_name l.names.items l.begun.items p 0

abbrev pub seen_by : Observers → Name → ℕ
seen_by l o = at_name l.names.items l.seen.items o 0

-- who is engaged where a performer becomes so or is so no longer; how often each has begun where one begins; and how many units each has
-- done where one does another
abbrev pub engaged_with : Performers → Name → Bool → List Bool
engaged_with l p engaged = with_named l.names.items l.engaged.items p engaged

abbrev pub begun_with : Performers → Name → List ℕ
begun_with l p = with_rise l.names.items l.begun.items p

abbrev pub seen_with : Observers → Name → List ℕ
seen_with l o = with_rise l.names.items l.seen.items o

-- What is kept of a performer is what the entries tell of it, and nothing of any other name.
pub record TellsPerformers (es : List Entry) (l : Performers) : Type 0 where
  pub many : length l.engaged.items ≡ length l.names.items
  pub engages : (p : Name) → is_engaged p es ≡ at_name l.names.items l.engaged.items p false
  pub as_many : length l.begun.items ≡ length l.names.items
  pub counts : (p : Name) → begins p es ≡ at_name l.names.items l.begun.items p 0

-- What is kept of an observer is what the entries tell of it, and nothing of any other name.
pub record TellsObservers (es : List Entry) (l : Observers) : Type 0 where
  pub many : length l.seen.items ≡ length l.names.items
  pub counts : (o : Name) → observed o es ≡ at_name l.names.items l.seen.items o 0

-- whether a name is there, in lists of values at the places of names; and whether the number at its place may still rise
abbrev pub has_name : {A : Type 0} → List Name → List A → Name → Bool
has_name names xs p = nat_lt (place_in names p) (length xs)

abbrev pub may_rise : List Name → List ℕ → Name → Bool
may_rise names xs p = has_name names xs p && nat_lt (at_name names xs p 0) 18446744073709551615

-- whether an event names performers that are there
abbrev pub speaks_of_performers : Performers → Event → Bool
speaks_of_performers l (event.Offer r p) = has_name l.names.items l.engaged.items p
speaks_of_performers l (event.Reject r p) = has_name l.names.items l.engaged.items p
speaks_of_performers l (event.Begin r p) = may_rise l.names.items l.begun.items p
speaks_of_performers l (event.Finish r p ok) = has_name l.names.items l.engaged.items p
speaks_of_performers l (event.Stopped r p) = has_name l.names.items l.engaged.items p
speaks_of_performers l e = true

-- whether an event names observers that are there
abbrev pub speaks_of_observers : Observers → Event → Bool
speaks_of_observers l (event.Edit (by.Observer o) edit) = may_rise l.names.items l.seen.items o
speaks_of_observers l (event.Refused (by.Observer o) why) = may_rise l.names.items l.seen.items o
speaks_of_observers l e = true
