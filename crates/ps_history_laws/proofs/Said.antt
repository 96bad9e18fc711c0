-- Events of which all that they say can be said, and what such entries say of requests.
use Rattle.std.proofs.Common.{◌≡◌, ℕ, ◌≤◌, ◌==◌, ◌||◌, Bool, true, false, Option, Some, None, IfSome, IsTrue, List, [], ◌∷◌, All, length, refl, sym, subst}
use Rattle.std.specs.Option.{unwrap_or}
use Rattle.std.proofs.lemmas.Bool.{true≢false, and_parts}
use Rattle.std.proofs.lemmas.List.Elements.{All-head, All-nil, All-push, All-tail}
use Rattle.ps_world.specs.Names.{Table, same_name}
use Rattle.ps_world.specs.Tables.{IsOf}
use Rattle.ps_world.specs.declared.names.Name.{Name}
use Rattle.ps_action.proofs.Facts.{same_name-is}
use Rattle.ps_machine.specs.Tables.{IsByOf, IsRefusalOf, is_note}
use Rattle.ps_machine.specs.declared.journal.Event.{Event}
use Rattle.ps_machine.specs.declared.journal.Event.TheVariants as event
use Rattle.ps_machine.specs.declared.journal.Entry.{Entry}
use Rattle.ps_rules.specs.Auctions.{confirmed, has_offered, is_offer, offers, says_confirm, says_offer}
use Rattle.ps_rules.specs.Reading.{latest, only_if, read, with_last}
use Rattle.ps_rules.specs.Same.{first_alike}
use Rattle.ps_script_laws.specs.Sayable.{IsActOf, IsEditOf, IsQueryOf}
use Rattle.ps_entries.specs.Forms.{may_run}

-- an event's names are of the table, an edit or a query in it is one that a line can say, its acts have at most 6 arguments each, a run of an
-- action has one act, and what a performer tells is a percentage with a note
abbrev pub IsSaid : Table → Event → Type 0
IsSaid names (event.Edit who edit) = IsByOf (length names) who × IsEditOf names edit
IsSaid names (event.Refused who why) = IsByOf (length names) who × IsRefusalOf (length names) (first_alike why)
IsSaid names (event.Ask q) = IsQueryOf names q
IsSaid names (event.Run for acts) = (may_run for acts ≡ true) × All (IsActOf (length names)) acts
IsSaid names (event.Offer r p) = IsOf (length names) p
IsSaid names (event.Pass r p why) = IsOf (length names) p
IsSaid names (event.Confirm r p) = IsOf (length names) p
IsSaid names (event.Reject r p) = IsOf (length names) p
IsSaid names (event.Begin r p) = IsOf (length names) p
IsSaid names (event.UnitWork r p) = IsOf (length names) p
IsSaid names (event.Feedback r p percent text) = IsOf (length names) p × (percent ≤ 100) × IsTrue (is_note text)
IsSaid names (event.Finish r p ok) = IsOf (length names) p
IsSaid names (event.Stopped r p) = IsOf (length names) p
IsSaid names (event.Replan acts) = All (IsActOf (length names)) acts
IsSaid names e = Unit {0}

-- the same of an entry
abbrev pub IsSaidEntry : Table → Entry → Type 0
IsSaidEntry names e = IsSaid names e.what

module _ (names : Table) where
  -- ---- offers

  with_offer : (b : Bool) (p : Name) (ps : List Name) → IsOf (length names) p → All (IsOf (length names)) ps → All (IsOf (length names)) (with_last ps (only_if b p))
  with_offer true p ps h all = All-push (IsOf (length names)) ps p all h
  with_offer false p ps h all = all

  offer-step : (r : ℕ) (ps : List Name) (e : Event) → IsSaid names e → All (IsOf (length names)) ps → All (IsOf (length names)) (with_last ps (says_offer r e))
  offer-step r ps (event.Offer s p) h all = with_offer (r == s) p ps h all
  offer-step r ps e h all = all

  offers-from : (r : ℕ) (ps : List Name) (es : List Entry) → All (IsSaidEntry names) es → All (IsOf (length names)) ps
      → All (IsOf (length names)) (read (λ xs e. with_last xs (says_offer r e)) ps es)
  offers-from r ps [] said all = all
  offers-from r ps (e ∷ es) said all =
      offers-from r (with_last ps (says_offer r e.what)) es (All-tail (IsSaidEntry names) e es said)
      (offer-step r ps e.what (All-head (IsSaidEntry names) e es said) all)

  -- those that offered are of the table
  pub offers-named : (r : ℕ) (es : List Entry) → All (IsSaidEntry names) es → All (IsOf (length names)) (offers r es)
  offers-named r es said = offers-from r [] es said (All-nil (IsOf (length names)))

  -- ---- the confirmed

  with_confirmed : (b : Bool) (p : Name) (now : Option Name) → IsOf (length names) p → IfSome now (IsOf (length names)) → IfSome (unwrap_or (only_if b (Some p)) now) (IsOf (length names))
  with_confirmed true p now h all = h
  with_confirmed false p now h all = all

  confirm-step : (r : ℕ) (now : Option Name) (e : Event) → IsSaid names e → IfSome now (IsOf (length names)) → IfSome (unwrap_or (says_confirm r e) now) (IsOf (length names))
  confirm-step r now (event.Confirm s p) h all = with_confirmed (r == s) p now h all
  confirm-step r now e h all = all

  confirmed-from : (r : ℕ) (now : Option Name) (es : List Entry) → All (IsSaidEntry names) es → IfSome now (IsOf (length names))
      → IfSome (latest (says_confirm r) now es) (IsOf (length names))
  confirmed-from r now [] said all = all
  confirmed-from r now (e ∷ es) said all =
      confirmed-from r (unwrap_or (says_confirm r e.what) now) es (All-tail (IsSaidEntry names) e es said)
      (confirm-step r now e.what (All-head (IsSaidEntry names) e es said) all)

  -- who is confirmed is of the table
  pub confirmed-named : (r : ℕ) (es : List Entry) → All (IsSaidEntry names) es → IfSome (confirmed r es) (IsOf (length names))
  confirmed-named r es said = confirmed-from r None es said tt

  -- ---- who offered

  found-offer : (r : ℕ) (p : Name) (found : Bool) (e : Event) → IsSaid names e → (found ≡ true → IsOf (length names) p) → (found || is_offer r p e) ≡ true → IsOf (length names) p
  found-offer r p true e h old now = old refl
  found-offer r p false (event.Offer s q) h old now =
      subst (IsOf (length names)) (sym (same_name-is p q (and_parts (r == s) (same_name p q) now).1)) h
  found-offer r p false e h old now = absurd (true≢false (sym now))

  offered-from : (r : ℕ) (p : Name) (found : Bool) (es : List Entry) → All (IsSaidEntry names) es → (found ≡ true → IsOf (length names) p)
      → read (λ found e. found || is_offer r p e) found es ≡ true → IsOf (length names) p
  offered-from r p found [] said old now = old now
  offered-from r p found (e ∷ es) said old now =
      offered-from r p (found || is_offer r p e.what) es (All-tail (IsSaidEntry names) e es said)
      (found-offer r p found e.what (All-head (IsSaidEntry names) e es said) old) now

  -- who offered is of the table
  pub offered-named : (r : ℕ) (p : Name) (es : List Entry) → All (IsSaidEntry names) es → has_offered r p es ≡ true → IsOf (length names) p
  offered-named r p es said h = offered-from r p false es said (λ e. absurd (true≢false (sym e))) h
