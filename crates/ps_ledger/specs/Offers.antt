-- What is kept of the offers that stand.
use Rattle.std.specs.Prelude.{◌≡◌, ℕ, ◌≤◌, ◌==◌, ◌&&◌, not, Bool, if◌then◌else◌, List, [], ◌∷◌, ◌++◌, filter, map}
use Rattle.ps_world.specs.Names.{same_name}
use Rattle.ps_world.specs.declared.names.Name.{Name}
use Rattle.ps_machine.specs.declared.journal.Event.{Event}
use Rattle.ps_machine.specs.declared.journal.Event.TheVariants as event
use Rattle.ps_machine.specs.declared.journal.Entry.{Entry}
use Rattle.ps_rules.specs.Reading.{read}
use Rattle.ps_ledger.specs.Kept.{room_left}
use Rattle.ps_ledger.specs.declared.offers.Offer.{Offer}
use Rattle.ps_ledger.specs.declared.offers.Offers.{Offers}

-- these performers without this one
abbrev pub without : Name → List Name → List Name
without q ps = filter (λ p. not (same_name p q)) ps

-- the performers whose offers on a request stand after an event, where these stood before it
abbrev pub standing_next : ℕ → List Name → Event → List Name
standing_next r ps (event.Offer s q) = if r == s then ps ++ q ∷ [] else ps
standing_next r ps (event.Reject s q) = if r == s then without q ps else ps
standing_next r ps (event.Confirm s q) = if r == s then without q ps else ps
standing_next r ps e = ps

-- the performers whose offers on a request stand, in the order in which they offered: an offer stands until it is rejected or confirmed
abbrev pub standing : ℕ → List Entry → List Name
standing r es = read (standing_next r) [] es

-- the performers of the offers on a request, among these
abbrev pub offered_on : ℕ → List Offer → List Name
offered_on r offers = map (λ o. o.by) (filter (λ o. r == o.r) offers)

-- The offers that are kept are those that stand.
pub record TellsOffers (es : List Entry) (l : Offers) : Type 0 where
  pub offers : (r : ℕ) → standing r es ≡ offered_on r l.all.items

-- whether this isn't the offer of a performer on a request
abbrev pub is_other : ℕ → Name → Offer → Bool
is_other r q o = not ((r == o.r) && same_name o.by q)

-- there is memory for so many offers more
abbrev pub HasOffers : ℕ → Offers → Type 0
HasOffers n l = n ≤ room_left l.all
