-- Lists of typed names that are read: the names that count are few, apart, and of declared types.
use Rattle.std.proofs.Common.{◌≡◌, ◌≤◌, ◌<◌, nat_le, ℕ, zero, suc, All, Bool, true, false, List, [], ◌∷◌, ◌++◌, length, filter, get_or, Ok, Err, refl, sym, ap, subst, append-nil, arith}
use Rattle.std.specs.Bool.{if◌then◌else◌}
use Rattle.std.specs.List.{list_any}
use Rattle.std.proofs.lemmas.Bool.{eqb-false, leb-false, ne_eqb, or_from, or_parts}
use Rattle.std.proofs.lemmas.List.{length-append}
use Rattle.std.proofs.lemmas.List.Elements.{All-push, filter-append}
use Rattle.std.proofs.lemmas.List.Quantifiers.{all_pairs_push}
use Rattle.ps_world.specs.Names.{same_name}
use Rattle.ps_world.specs.Knowledge.{is_type}
use Rattle.ps_world.specs.declared.names.Name.{Name}
use Rattle.ps_world.specs.declared.domains.Param.{Param}
use Rattle.ps_world.specs.declared.domains.Domain.{Domain}
use Rattle.ps_grammar.specs.Marks.{is}
use Rattle.ps_grammar.specs.declared.marks.Mark.TheVariants as mark
use Rattle.ps_pddl.specs.Lists.{cap_of, counted, counts, kept, kind_ahead, listed, listed_type, most_of, with_name}
use Rattle.ps_lists.specs.Nested.{Nested, Nesteds, none, more}
use Rattle.ps_lists.specs.Places.{head, word_of}
use Rattle.ps_conditions.specs.Steps.{◌>>=◌}
use Rattle.ps_pddl.specs.WellFormed.{AreApart, AreTyped}
use Rattle.ps_lists.specs.declared.lexemes.Lexeme.{Lexeme}
use Rattle.ps_pddl.specs.declared.meaning.lists.Listing.{Listing}
use Rattle.ps_pddl.specs.declared.meaning.lists.Listing.TheVariants.{Constants, Params}
use Rattle.ps_pddl.specs.declared.refusals.DomainRefusal.TheVariants.{Limit, Twice, Unknown}
use Rattle.ps_pddl.proofs.Sound.{Sound, then_sound, also_sound, either_sound, unless_sound}

-- ---- names

pub same_turned : (m n : Name) → same_name m n ≡ false → same_name n m ≡ false
same_turned m n e = ne_eqb n.0 m.0 (λ p. eqb-false m.0 n.0 e (sym p))

-- a name that none of these has is apart from each
pub new_apart : {T : Type 0} (name_of : T → Name) (n : Name) (xs : List T) → list_any (λ x. same_name n (name_of x)) xs ≡ false → (k : ℕ) (d : T) → k < length xs → same_name (name_of (get_or xs k d)) n ≡ false
new_apart name_of n [] e k d lt = absurd (omega (arith, lt))
new_apart name_of n (x ∷ xs) e zero d lt = same_turned n (name_of x) (or_parts (same_name n (name_of x)) (list_any (λ x. same_name n (name_of x)) xs) e).0
new_apart name_of n (x ∷ xs) e (suc k) d lt =
    new_apart name_of n xs (or_parts (same_name n (name_of x)) (list_any (λ x. same_name n (name_of x)) xs) e).1 k d (omega (arith, lt))

pub apart_push : {T : Type 0} (name_of : T → Name) (xs : List T) (y : T) → AreApart name_of xs → list_any (λ x. same_name (name_of y) (name_of x)) xs ≡ false → AreApart name_of (xs ++ y ∷ [])
apart_push name_of xs y h e = all_pairs_push (λ x y. same_name (name_of x) (name_of y) ≡ false) xs y h (new_apart name_of (name_of y) xs e)

-- what none has, none of those that count has
none_kept : (n : Name) (t : Param → Bool) (ps : List Param) → list_any (λ p. same_name n p.name) ps ≡ false → list_any (λ p. same_name n p.name) (filter t ps) ≡ false
none_kept n t [] e = refl
none_kept n t (p ∷ ps) e =
    let parts = or_parts (same_name n p.name) (list_any (λ p. same_name n p.name) ps) e in
    let rest = none_kept n t ps parts.1 in
    elim (t p) as (λ b. list_any (λ p. same_name n p.name) (if b then p ∷ filter t ps else filter t ps) ≡ false) [ true ↦ or_from (same_name n p.name) (list_any (λ p. same_name n p.name) (filter t ps)) parts.0 rest | false ↦ rest ]

-- ---- one name more

-- few names, which are apart
abbrev pub AreFew : ℕ → List Param → Type 0
AreFew most ps = (length ps ≤ most) × AreApart (λ p. p.name) ps

few_push : (most : ℕ) (ps : List Param) (p : Param) → length ps < most → list_any (λ q. same_name p.name q.name) ps ≡ false → AreFew most ps → AreFew most (ps ++ p ∷ [])
few_push most ps p lt e h = (rw (length-append ps (p ∷ [])) (omega (arith, lt)), apart_push (λ p. p.name) ps p h.1 e)

kept_few : (listing : Listing) (before : List Param) (p : Param) (b : Bool) → counts listing p ≡ b → (if b then length (kept listing before) else 0) < most_of listing → list_any (λ q. same_name p.name q.name) before ≡ false → AreFew (most_of listing) (kept listing before) → AreFew (most_of listing) (kept listing before ++ kept listing (p ∷ []))
kept_few listing before p true c lt e h = rw c (few_push (most_of listing) (kept listing before) p lt (none_kept p.name (counts listing) before e) h)
kept_few listing before p false c lt e h = rw c (rw (append-nil (kept listing before)) h)

kept_known : (Known : Name → Type 0) (listing : Listing) (before : List Param) (p : Param) (b : Bool) → counts listing p ≡ b → All (λ p. Known p.kind) (kept listing before) → Known p.kind → All (λ p. Known p.kind) (kept listing before ++ kept listing (p ∷ []))
kept_known Known listing before p true c h k = rw c (All-push (λ p. Known p.kind) (kept listing before) p h k)
kept_known Known listing before p false c h k = rw c (rw (append-nil (kept listing before)) h)

-- this name more
abbrev pub Adds : List Param → Lexeme → Name → List Param → Type 0
Adds before l kind all = all ≡ before ++ record { name = l.name; kind = kind } ∷ []

with_name_adds : (listing : Listing) (l : Lexeme) (kind : Name) (before : List Param) → AreFew (most_of listing) (kept listing before) → Sound (λ all. Adds before l kind all × AreFew (most_of listing) (kept listing all)) (with_name listing l kind before)
with_name_adds listing l kind before h =
    let p : Param = record { name = l.name; kind = kind } in
    unless_sound (λ all. Adds before l kind all × AreFew (most_of listing) (kept listing all)) (nat_le (most_of listing) (counted listing p before)) (list_any (λ q. same_name l.name q.name) before) (Limit l.at (cap_of listing)) (Twice l.at l.name) (Ok (before ++ p ∷ []))
    (λ few new. (refl, rw (filter-append (counts listing) before (p ∷ [])) (kept_few listing before p (counts listing p) refl (leb-false (most_of listing) (counted listing p before) few) new h)))

pub name_adds : (listing : Listing) (l : Lexeme) (kind : Name) (before : List Param) → Sound (Adds before l kind) (with_name listing l kind before)
name_adds listing l kind before =
    let p : Param = record { name = l.name; kind = kind } in
    unless_sound (Adds before l kind) (nat_le (most_of listing) (counted listing p before)) (list_any (λ q. same_name l.name q.name) before) (Limit l.at (cap_of listing)) (Twice l.at l.name) (Ok (before ++ p ∷ [])) (λ few new. refl)

-- ---- a whole list

module _ (d : Domain) (listing : Listing) where
  abbrev IsKnown : Name → Type 0
  IsKnown n = is_type d n ≡ true

  -- the types of those that count are known
  abbrev pub AreKnown : List Param → Type 0
  AreKnown ps = All (λ p. is_type d p.kind ≡ true) (kept listing ps)

  abbrev pub AreFine : List Param → Type 0
  AreFine ps = AreFew (most_of listing) (kept listing ps) × AreKnown ps

  -- so it is with what is left, whatever stands before it
  abbrev Left : Nesteds → Type 0
  Left ts = ((before : List Param) → AreFew (most_of listing) (kept listing before) → (IsKnown (kind_ahead ts) → AreKnown before) → Sound AreFine (listed d listing ts before)) × ((before : List Param) → AreFew (most_of listing) (kept listing before) → (IsKnown (head ts).name → AreKnown before) → Sound AreFine (listed_type d listing ts before))

  added_known : (l : Lexeme) (kind : Name) (before all : List Param) → Adds before l kind all → AreKnown before → IsKnown kind → AreKnown all
  added_known l kind before all e h k =
      let p : Param = record { name = l.name; kind = kind } in
      rw e (rw (filter-append (counts listing) before (p ∷ [])) (kept_known IsKnown listing before p (counts listing p) refl h k))

  one_word : (minus : Bool) (l : Lexeme) (ts : Nesteds) (before : List Param) → Left ts → AreFew (most_of listing) (kept listing before) → (IsKnown (if minus then (head ts).name else kind_ahead ts) → AreKnown before) → Sound AreFine (if minus then listed_type d listing ts before else (with_name listing l (kind_ahead ts) before >>= λ all. listed d listing ts all))
  one_word true l ts before ih w h = ih.1 before w h
  one_word false l ts before ih w h =
      then_sound (λ all. Adds before l (kind_ahead ts) all × AreFew (most_of listing) (kept listing all)) AreFine (with_name listing l (kind_ahead ts) before) (λ all. listed d listing ts all) (with_name_adds listing l (kind_ahead ts) before w)
      (λ all s. ih.0 all s.1 (λ k. added_known l (kind_ahead ts) before all s.0 (h k) k))

  one_type : (t : Nested) (ts : Nesteds) (before : List Param) → Left ts → AreFew (most_of listing) (kept listing before) → (IsKnown (word_of t).name → AreKnown before) → Sound AreFine (listed_type d listing (more t ts) before)
  one_type t ts before ih w h =
      either_sound AreFine (is_type d (word_of t).name) (listed d listing ts before) (Err (Unknown (word_of t).at (word_of t).name)) (λ e. ih.0 before w (λ k. h e)) (λ e. tt)

  left_sound : (ts : Nesteds) → Left ts
  left_sound none = (λ before w h. (w, h refl), λ before w h. (w, h refl))
  left_sound (more t ts) = (λ before w h. one_word (is mark.Minus (word_of t).mark) (word_of t) ts before (left_sound ts) w h, λ before w h. one_type t ts before (left_sound ts) w h)

  -- after others that are so
  pub listed_after_sound : (ts : Nesteds) (before : List Param) → AreFew (most_of listing) (kept listing before) → AreKnown before → Sound AreFine (listed d listing ts before)
  listed_after_sound ts before few known = (left_sound ts).0 before few (λ k. known)

  pub listed_sound : (ts : Nesteds) → Sound AreFine (listed d listing ts [])
  listed_sound ts = (left_sound ts).0 [] (omega arith, λ i j x lt within. absurd (omega (arith, within))) (λ e k x within. absurd (omega (arith, within)))

-- where each name counts, the list is sound
kept_constants : (ps : List Param) → kept Constants ps ≡ ps
kept_constants [] = refl
kept_constants (p ∷ ps) = ap (λ more. p ∷ more) (kept_constants ps)

kept_params : (ps : List Param) → kept Params ps ≡ ps
kept_params [] = refl
kept_params (p ∷ ps) = ap (λ more. p ∷ more) (kept_params ps)

fine_typed : (d : Domain) (most : ℕ) (ps : List Param) → AreFew most ps × All (λ p. is_type d p.kind ≡ true) ps → AreTyped d most ps
fine_typed d most ps h = record { few = h.0.0; apart = h.0.1; kinds = h.1 }

pub constants_sound : (d : Domain) (ts : Nesteds) → Sound (AreTyped d 1000) (listed d Constants ts [])
constants_sound d ts =
    also_sound (AreFine d Constants) (AreTyped d 1000) (listed d Constants ts []) (listed_sound d Constants ts)
    (λ all h. fine_typed d 1000 all (subst (λ ps. AreFew 1000 ps × All (λ p. is_type d p.kind ≡ true) ps) (kept_constants all) h))

pub params_sound : (d : Domain) (ts : Nesteds) → Sound (AreTyped d 6) (listed d Params ts [])
params_sound d ts =
    also_sound (AreFine d Params) (AreTyped d 6) (listed d Params ts []) (listed_sound d Params ts)
    (λ all h. fine_typed d 6 all (subst (λ ps. AreFew 6 ps × All (λ p. is_type d p.kind ≡ true) ps) (kept_params all) h))
