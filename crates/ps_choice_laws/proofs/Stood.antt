-- What stands in lists, and what a legal event tells.
use Rattle.std.proofs.Common.{◌≡◌, ℕ, zero, suc, ◌<◌, ◌&&◌, true, false, not, Option, Some, None, Contains, slice_index_or, List, [], ◌∷◌, filter_map, length, refl, arith, ap, sym, ◌∙◌, inl, inr, ◌⊎◌}
use Rattle.std.specs.List.{cons_option}
use Rattle.std.proofs.lemmas.Bool.{and_parts}
use Rattle.ps_world.proofs.Truths.{not_not}
use Rattle.ps_world.proofs.Optionals.{some_same}
use Rattle.ps_machine.specs.declared.inputs.Input.{Input}
use Rattle.ps_machine.specs.declared.journal.Event.{Event}
use Rattle.ps_machine.specs.declared.journal.Entry.{Entry}
use Rattle.ps_rules.specs.Auctions.{requests}
use Rattle.ps_rules.specs.Runs.{is_running}
use Rattle.ps_rules.specs.Lines.{answers_line}
use Rattle.ps_rules.specs.Legal.{is_legal, row_allows, same_flag}
use Rattle.ps_rules.specs.Choices.{all_requests, head_of}
use Rattle.ps_progress_laws.proofs.Lists.{In, in_range}

-- ---- lists

-- what is one of a list stands at some place of it
pub stands : {A : Type 0} (x : A) (xs : List A) → In x xs → Contains xs x
stands x [] h = absurd h
stands x (y ∷ ys) (inl e) = (zero, omega arith, sym e)
stands x (y ∷ ys) (inr h) = let w = stands x ys h in (suc w.0, (let l = w.1 in omega (arith, l)), w.2)

-- and what stands at a place is one of the list
place_in : {A : Type 0} (x : A) (xs : List A) (k : ℕ) → k < length xs → slice_index_or xs k x ≡ x → In x xs
place_in x [] k l e = absurd (omega (arith, l))
place_in x (y ∷ ys) zero l e = inl (sym e)
place_in x (y ∷ ys) (suc k) l e = inr (place_in x ys k (omega (arith, l)) e)

pub in_of : {A : Type 0} (x : A) (xs : List A) → Contains xs x → In x xs
in_of x xs c = place_in x xs c.0 c.1 c.2

-- ---- what comes of items

-- an option's value before a list
past : {A : Type 0} (x : A) (o : Option A) (xs : List A) → In x xs → In x (cons_option o xs)
past x None xs h = h
past x (Some y) xs h = inr h

first_or : {A : Type 0} (x : A) (o : Option A) (xs : List A) → In x (cons_option o xs) → (o ≡ Some x) ⊎ In x xs
first_or x None xs h = inr h
first_or x (Some y) xs (inl e) = inl (ap Some (sym e))
first_or x (Some y) xs (inr h) = inr h

-- what comes of an item stands among what comes of all
pub in_mapped : {A B : Type 0} (f : A → Option B) (x : A) (y : B) (xs : List A) → In x xs → f x ≡ Some y → In y (filter_map f xs)
in_mapped f x y [] h e = absurd h
in_mapped f x y (z ∷ zs) (inl s) e = rw (sym (ap f s) ∙ e) (inl refl)
in_mapped f x y (z ∷ zs) (inr h) e = past y (f z) (filter_map f zs) (in_mapped f x y zs h e)

-- and each of those comes of an item
pub mapped_in : {A B : Type 0} (f : A → Option B) (y : B) (xs : List A) → In y (filter_map f xs) → (x : A) × In x xs × (f x ≡ Some y)
mapped_in f y [] h = absurd h
mapped_in f y (z ∷ zs) h =
    elim (first_or y (f z) (filter_map f zs) h) [ inl e ↦ (z, inl refl, e) | inr m ↦ let w = mapped_in f y zs m in (w.0, inr w.1, w.2) ]

-- the first of a list is one of it
pub head_in : {A : Type 0} (x : A) (xs : List A) → head_of xs ≡ Some x → In x xs
head_in x [] e = absurd (cc)
head_in x (y ∷ ys) e = inl (sym (some_same y x e))

-- a list with an item has a first one
pub some_head : {A : Type 0} (x : A) (xs : List A) → In x xs → (y : A) × (head_of xs ≡ Some y)
some_head x [] h = absurd h
some_head x (y ∷ ys) h = (y, refl)

-- ---- numbers of requests

pub requested : (es : List Entry) (r : ℕ) → r < requests es → In r (all_requests es)
requested es r l = in_range r 0 (requests es) (omega arith) (omega (arith, l))

-- ---- legal events

-- an event that answers no line is legal in an open run alone
pub live : (i : Input) (es : List Entry) (e : Event) → answers_line e ≡ false → is_legal i es e ≡ true → is_running es ≡ true
live i es e own h = not_not (is_running es) (and_parts (same_flag false (not (is_running es))) (row_allows i es e) (sym (ap (λ b. same_flag b (not (is_running es)) && row_allows i es e) own) ∙ h)).0
