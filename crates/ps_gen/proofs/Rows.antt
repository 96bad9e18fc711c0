-- Rows that the checker computes: names of carts, the script of one cart, how many lines a script has, and a summary.
use Rattle.std.proofs.Common.{◌≡◌, ℕ, zero, suc, ◌+◌, ◌*◌, List, [], ◌∷◌, map, ◌++◌, arith, codes, length, length-append, refl}
use Rattle.std.specs.Fmt.{digits}
use Rattle.std.specs.List.{flat_map, range_with_len}
use Rattle.std.proofs.lemmas.List.FromFn.{length-map-range_with_len}
use Rattle.ps_world.specs.declared.names.Name.{Name}
use Rattle.ps_machine.specs.declared.journal.Entry.{Entry}
use Rattle.ps_machine.specs.declared.journal.Event.{Event}
use Rattle.ps_machine.specs.declared.journal.Event.TheVariants.{Start, Request, Offer, Pass}
use Rattle.ps_machine.specs.declared.journal.PassWhy.TheVariants.{Other}
use Rattle.ps_gen.specs.Summary.{is_offer, is_request, is_run, is_start, summary_text}
use Rattle.ps_gen.specs.Texts.{cart_line, cart_name, carts_of, script_lines, store_line, trip_lines}

first_cart : cart_name 1 ≡ codes "c001"
first_cart = refl

last_cart : cart_name 100 ≡ codes "c100"
last_cart = refl

one_cart : script_lines 1 ≡
    codes "set instance store spot" ∷ codes "set instance aisle spot" ∷ codes "set instance dock spot"
    ∷ codes "set predicate (next store aisle)" ∷ codes "set predicate (next aisle dock)"
    ∷ codes "set instance c001 cart" ∷ codes "set predicate (at c001 store)"
    ∷ codes "set goal (and (at c001 dock))" ∷ codes "run" ∷ []
unfolding script_lines
one_cart = refl

trips_length : (a n : ℕ) → length (flat_map trip_lines (range_with_len a n)) ≡ 2 * n
trips_length a zero = refl
trips_length a (suc n) = let rest = trips_length (a + 1) n in omega arith

pub script_length : (n : ℕ) → length (script_lines n) ≡ 4 * n + 5
unfolding script_lines
script_length n =
    let trips = trips_length 1 n in
    let carts = length-map-range_with_len cart_line 1 n in
    let stores = length-map-range_with_len store_line 1 n in
    let rest = map store_line (carts_of n) ++ flat_map trip_lines (carts_of n) in
    omega (arith, length-append (map cart_line (carts_of n)) rest, length-append (map store_line (carts_of n)) (flat_map trip_lines (carts_of n)))

entry_of : Event → Entry
entry_of event = record { hand = 1; what = event }

abbrev four : Name → List Entry
four by = map entry_of (Start 0 ∷ Request 0 0 ∷ Pass 0 by Other ∷ Offer 0 by ∷ [])

a_summary : (by : Name) → summary_text 1 (four by) ≡ codes "carts 1\nruns 0\nacts 1\nrequests 1\noffers 1\nentries 4\n"
unfolding summary_text is_run is_start is_request is_offer digits entry_of
a_summary by = refl
