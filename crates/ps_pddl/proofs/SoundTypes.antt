-- Types that are read are declared, and none leads back to itself.
use Rattle.std.proofs.Common.{◌≡◌, ◌||◌, ◌&&◌, cond, zero, suc, All, Bool, true, false, List, [], ◌∷◌, ◌++◌, find, get_or, Option, Some, None, Err, refl, sym, ap, ◌∙◌, arith}
use Rattle.std.specs.Bool.{if◌then◌else◌}
use Rattle.std.specs.List.{list_any}
use Rattle.std.proofs.lemmas.Bool.{and_parts, eqb-false, eqb-true, ne_eqb, not-false}
use Rattle.std.proofs.lemmas.List.Folds.{list_any-append}
use Rattle.ps_world.specs.Names.{same_name, object}
use Rattle.ps_world.specs.Knowledge.{is_type}
use Rattle.ps_world.specs.declared.names.Name.{Name}
use Rattle.ps_world.specs.declared.domains.Param.{Param}
use Rattle.ps_world.specs.declared.domains.Domain.{Domain}
use Rattle.ps_world.proofs.Truths.{or_more}
use Rattle.ps_domain.proofs.Listed.{later_passes}
use Rattle.ps_grammar.specs.Marks.{is}
use Rattle.ps_grammar.specs.declared.marks.Mark.TheVariants as mark
use Rattle.ps_pddl.specs.Lists.{counts, kept, kind_ahead, listed, listed_type, with_name}
use Rattle.ps_lists.specs.Nested.{Nested, Nesteds, none, more}
use Rattle.ps_lists.specs.Places.{word_of}
use Rattle.ps_conditions.specs.Steps.{◌>>=◌}
use Rattle.ps_pddl.specs.Types.{acyclic, is_cyclic, names_after_type, names_of, with_types}
use Rattle.ps_pddl.specs.WellFormed.{AreTyped}
use Rattle.ps_lists.specs.declared.lexemes.Lexeme.{Lexeme}
use Rattle.ps_pddl.specs.declared.meaning.lists.Listing.TheVariants.{Types}
use Rattle.ps_pddl.specs.declared.refusals.DomainRefusal.TheVariants.{Unknown}
use Rattle.ps_pddl.proofs.Sound.{Sound, then_sound, both_sound, either_sound}
use Rattle.ps_pddl.proofs.SoundLists.{Adds, AreFine, name_adds, listed_sound}

-- ---- the names of a list, and the list

-- whether one of these has the name
abbrev has_name : List Param → Name → Bool
has_name ps n = list_any (λ p. same_name n p.name) ps

-- the two have the same names
abbrev SameNames : List Param → List Param → Type 0
SameNames ps qs = (n : Name) → has_name ps n ≡ has_name qs n

same_push : (ps qs : List Param) (name kind other : Name) → SameNames ps qs → SameNames (ps ++ record { name = name; kind = kind } ∷ []) (qs ++ record { name = name; kind = other } ∷ [])
same_push ps qs name kind other h n =
    let p : Param = record { name = name; kind = kind } in
    let q : Param = record { name = name; kind = other } in
    list_any-append (λ p. same_name n p.name) ps (p ∷ []) ∙ ap (λ b. b || (same_name n name || false)) (h n) ∙ sym (list_any-append (λ p. same_name n p.name) qs (q ∷ []))

module _ (d : Domain) where
  -- so it is with what is left, whatever stands before it
  abbrev Left : Nesteds → Type 0
  Left ts = ((names before : List Param) → SameNames names before → Sound (SameNames (names_of ts names)) (listed d Types ts before)) × ((names before : List Param) → SameNames names before → Sound (SameNames (names_after_type ts names)) (listed_type d Types ts before))

  one_word : (minus : Bool) (l : Lexeme) (ts : Nesteds) (names before : List Param) → Left ts → SameNames names before → Sound (SameNames (if minus then names_after_type ts names else names_of ts (names ++ record { name = l.name; kind = object } ∷ []))) (if minus then listed_type d Types ts before else (with_name Types l (kind_ahead ts) before >>= λ all. listed d Types ts all))
  one_word true l ts names before ih h = ih.1 names before h
  one_word false l ts names before ih h =
      let more_names : List Param = names ++ record { name = l.name; kind = object } ∷ [] in
      then_sound (Adds before l (kind_ahead ts)) (SameNames (names_of ts more_names)) (with_name Types l (kind_ahead ts) before) (λ all. listed d Types ts all) (name_adds Types l (kind_ahead ts) before)
      (λ all e. ih.0 more_names all (rw e (same_push names before l.name object (kind_ahead ts) h)))

  one_type : (t : Nested) (ts : Nesteds) (names before : List Param) → Left ts → SameNames names before → Sound (SameNames (names_of ts names)) (listed_type d Types (more t ts) before)
  one_type t ts names before ih h =
      either_sound (SameNames (names_of ts names)) (is_type d (word_of t).name) (listed d Types ts before) (Err (Unknown (word_of t).at (word_of t).name)) (λ e. ih.0 names before h) (λ e. tt)

  left_same : (ts : Nesteds) → Left ts
  left_same none = (λ names before h. h, λ names before h. h)
  left_same (more t ts) = (λ names before h. one_word (is mark.Minus (word_of t).mark) (word_of t) ts names before (left_same ts) h, λ names before h. one_type t ts names before (left_same ts) h)

  names_sound : (ts : Nesteds) → Sound (SameNames (names_of ts [])) (listed d Types ts [])
  names_sound ts = (left_same ts).0 [] [] (λ n. refl)

-- ---- those that count have all names but `object`

one_kept : (n : Name) (p : Param) (ps : List Param) (b : Bool) → counts Types p ≡ b → same_name n object ≡ false → (same_name n p.name || has_name ps n) ≡ true → (has_name ps n ≡ true → has_name (kept Types ps) n ≡ true) → has_name (if b then p ∷ kept Types ps else kept Types ps) n ≡ true
one_kept n p ps true c o e h = or_more (same_name n p.name) (has_name ps n) (has_name (kept Types ps) n) e h
one_kept n p ps false c o e h =
    let both = and_parts (same_name p.name object) (same_name p.kind object) (not-false (same_name p.name object && same_name p.kind object) c) in
    let is_object = eqb-true p.name.0 object.0 both.0 in
    h (later_passes (same_name n p.name) (has_name ps n) (ne_eqb n.0 p.name.0 (λ q. eqb-false n.0 object.0 o (q ∙ is_object))) e)

kept_has : (n : Name) (ps : List Param) → same_name n object ≡ false → has_name ps n ≡ true → has_name (kept Types ps) n ≡ true
kept_has n [] o e = e
kept_has n (p ∷ ps) o e = one_kept n p ps (counts Types p) refl o e (kept_has n ps o)

known_kept : (n : Name) (ps : List Param) (b : Bool) → same_name n object ≡ b → (b || has_name ps n) ≡ true → (b || has_name (kept Types ps) n) ≡ true
known_kept n ps true o e = refl
known_kept n ps false o e = kept_has n ps o e

-- ---- no way back

first_none : {A : Type 0} (b : Bool) (x : A) (o : Option A) → cond b (Some x) o ≡ None → (b ≡ false) × (o ≡ None)
first_none true x o e = absurd (cc)
first_none false x o e = (refl, e)

none_found : {A : Type 0} (test : A → Bool) (xs : List A) → find test xs ≡ None → All (λ x. test x ≡ false) xs
none_found test [] e k y lt = absurd (omega (arith, lt))
none_found test (x ∷ xs) e zero y lt = (first_none (test x) x (find test xs) e).0
none_found test (x ∷ xs) e (suc k) y lt = none_found test xs (first_none (test x) x (find test xs) e).1 k y (omega (arith, lt))

-- types that are few, apart, with known parents and with no way back
abbrev pub HasTypes : Domain → Type 0
HasTypes d = AreTyped d 256 d.types × All (λ p. is_cyclic d p ≡ false) d.types

acyclic_sound : (d : Domain) (o : Option Param) → (o ≡ None → HasTypes d) → Sound HasTypes (acyclic d o)
acyclic_sound d None h = h refl
acyclic_sound d (Some p) h = tt

-- the domain with these types
abbrev typed : Domain → List Param → Domain
typed d ps = record d { types = ps }

-- a known type is one of those that count
type_kept : (d : Domain) (ts : Nesteds) (all : List Param) → SameNames (names_of ts []) all → (n : Name) → is_type (typed d (names_of ts [])) n ≡ true → is_type (typed d (kept Types all)) n ≡ true
type_kept d ts all same n e = known_kept n all (same_name n object) refl (ap (λ b. same_name n object || b) (sym (same n)) ∙ e)

types_known : (d : Domain) (ts : Nesteds) (all : List Param) → AreFine (typed d (names_of ts [])) Types all → SameNames (names_of ts []) all → AreTyped (typed d (kept Types all)) 256 (kept Types all)
types_known d ts all h same = record {
  few = h.0.0;
  apart = h.0.1;
  kinds = λ k p lt. type_kept d ts all same (get_or (kept Types all) k p).kind (h.1 k p lt);
}

pub types_sound : (d : Domain) (ts : Nesteds) → Sound HasTypes (with_types d ts)
types_sound d ts =
    let named : Domain = typed d (names_of ts []) in
    then_sound (λ all. AreFine named Types all × SameNames (names_of ts []) all) HasTypes (listed named Types ts []) (λ all. acyclic (typed d (kept Types all)) (find (is_cyclic (typed d (kept Types all))) (kept Types all)))
    (both_sound (AreFine named Types) (SameNames (names_of ts [])) (listed named Types ts []) (listed_sound named Types ts) (names_sound named ts))
    (λ all h. acyclic_sound (typed d (kept Types all)) (find (is_cyclic (typed d (kept Types all))) (kept Types all))
    (λ e. (types_known d ts all h.0 h.1, none_found (is_cyclic (typed d (kept Types all))) (kept Types all) e)))
