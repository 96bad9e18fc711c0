-- The words of lists of typed names mean them.
use Rattle.std.proofs.Common.{◌≡◌, ◌≤◌, ◌<◌, ℕ, suc, All, Bool, true, false, List, [], ◌∷◌, ◌++◌, length, get_or, None, Ok, refl, ap, subst, ◌∙◌, append_assoc, append-nil, arith}
use Rattle.std.specs.Bool.{if◌then◌else◌}
use Rattle.std.specs.List.{list_any}
use Rattle.std.proofs.lemmas.Bool.{lt-leb, or_from}
use Rattle.std.proofs.lemmas.List.{length-append}
use Rattle.std.proofs.lemmas.List.Elements.{All-head, All-tail}
use Rattle.std.proofs.Math.Seq.{get_or-append_seam}
use Rattle.ps_world.specs.Names.{Table, same_name}
use Rattle.ps_world.specs.Knowledge.{is_type}
use Rattle.ps_world.specs.declared.names.Name.{Name}
use Rattle.ps_world.specs.declared.domains.Param.{Param}
use Rattle.ps_world.specs.declared.domains.Domain.{Domain}
use Rattle.ps_world.proofs.Elements.{filter_few}
use Rattle.ps_grammar.specs.Marks.{is}
use Rattle.ps_grammar.specs.declared.marks.Mark.TheVariants as mark
use Rattle.ps_lists.specs.Nested.{Nesteds, word, none, more}
use Rattle.ps_lists.specs.declared.lexemes.Lexeme.{Lexeme}
use Rattle.ps_pddl.specs.Lists.{cap_of, counted, counts, fault_of_new, kept, listed, most_of, with_name}
use Rattle.ps_pddl.specs.WellFormed.{AreApart}
use Rattle.ps_pddl.specs.declared.meaning.lists.Listing.{Listing}
use Rattle.ps_pddl.specs.declared.refusals.Cap.{Cap}
use Rattle.ps_pddl.proofs.CanonicalForms.{AreTypedForms, no_typed, more_typed, AreParamForms, no_params, more_params}
use Rattle.ps_pddl.proofs.Listings.{with_name-passes}
use Rattle.ps_pddl.proofs.MeanMarks.{name-isnt}
use Rattle.ps_pddl.proofs.MeanTerms.{named-is_name}
use Rattle.ps_pddl.proofs.SoundLists.{same_turned}

-- ---- one more that is apart

-- of names that are apart, none before one is the same
pub none_before : {T : Type 0} (name_of : T → Name) (before : List T) (x : T) (rest : List T) → AreApart name_of (before ++ x ∷ rest) → list_any (λ y. same_name (name_of x) (name_of y)) before ≡ false
none_before name_of [] x rest h = refl
none_before name_of (y ∷ before) x rest h =
    let here : get_or (before ++ x ∷ rest) (length before) x ≡ x = get_or-append_seam before x rest x in
    let long = length-append before (x ∷ rest) in
    let apart : same_name (name_of y) (name_of x) ≡ false = subst (λ z. same_name (name_of y) (name_of z) ≡ false) here (h 0 (suc (length before)) x (omega arith) (omega (arith, long))) in
    or_from (same_name (name_of x) (name_of y)) (list_any (λ y. same_name (name_of x) (name_of y)) before)
    (same_turned (name_of y) (name_of x) apart)
    (none_before name_of before x rest (λ i j d lt within. h (suc i) (suc j) d (omega (arith, lt)) (omega (arith, within))))

-- nothing is at fault with one name more where there is room and it is new
pub fault_of_new-none : (which : Cap) (most count : ℕ) (taken : Bool) (l : Lexeme) → count < most → taken ≡ false → fault_of_new which most count taken l ≡ None
fault_of_new-none which most count taken l lt e = rw (lt-leb most count lt, e) refl

-- one of more is within
pub room : {T : Type 0} (before : List T) (x : T) (rest : List T) (most : ℕ) → length (before ++ x ∷ rest) ≤ most → length before < most
room before x rest most h = omega (arith, h, length-append before (x ∷ rest))

-- ---- typed names

-- names, each with a sign and its type
pub data AreListed : List Param → Nesteds → Type 0 where
  none_listed : AreListed [] none
  more_listed : (p : Param) (ps : List Param) (l m k : Lexeme) (ts : Nesteds) → is mark.Minus l.mark ≡ false → l.name ≡ p.name → m.mark ≡ mark.Minus → k.name ≡ p.kind → AreListed ps ts → AreListed (p ∷ ps) (more (word l) (more (word m) (more (word k) ts)))

pub typed_listed : (names : Table) (ps : List Param) (ts : Nesteds) → AreTypedForms names ps ts → AreListed ps ts
typed_listed names _ _ no_typed = none_listed
typed_listed names _ _ (more_typed p ps l m k ts w e v rest) =
    more_listed p ps l m k ts (name-isnt mark.Minus l.mark (named-is_name names p.name l w) refl) w.name e v.name (typed_listed names ps ts rest)

pub params_listed : (names : Table) (ps : List Param) (ts : Nesteds) → AreParamForms names ps ts → AreListed ps ts
params_listed names _ _ no_params = none_listed
params_listed names _ _ (more_params p ps l m k ts w e v rest) =
    more_listed p ps l m k ts (rw w.mark refl) w.name e v.name (params_listed names ps ts rest)

counted_few : (listing : Listing) (p : Param) (before : List Param) → counted listing p before ≤ length before
counted_few listing p before =
    let all = filter_few (counts listing) before in
    elim (counts listing p) as (λ b. (if b then length (kept listing before) else 0) ≤ length before) [ true ↦ all | false ↦ omega arith ]

module _ (d : Domain) (listing : Listing) where
  -- a name that is new, where there is room
  with_name-means : (p : Param) (l : Lexeme) (before rest : List Param) → length (before ++ p ∷ rest) ≤ most_of listing → AreApart (λ p. p.name) (before ++ p ∷ rest) → l.name ≡ p.name → with_name listing l p.kind before ≡ Ok (before ++ p ∷ [])
  with_name-means p l before rest few apart e =
      let added : Param = record { name = l.name; kind = p.kind } in
      let same : added ≡ p = ap (λ n. record { name = n; kind = p.kind }) e in
      let new : list_any (λ q. same_name l.name q.name) before ≡ false = rw e (none_before (λ p. p.name) before p rest apart) in
      let space : counted listing added before < most_of listing = omega (arith, counted_few listing added before, room before p rest (most_of listing) few) in
      with_name-passes listing l p.kind before (fault_of_new-none (cap_of listing) (most_of listing) (counted listing added before) (list_any (λ q. same_name l.name q.name) before) l space new) ∙ ap (λ q. Ok (before ++ q ∷ [])) same

  pub listed-means : (ps before : List Param) (ts : Nesteds) → length (before ++ ps) ≤ most_of listing → AreApart (λ p. p.name) (before ++ ps) → All (λ p. is_type d p.kind ≡ true) ps → AreListed ps ts → listed d listing ts before ≡ Ok (before ++ ps)
  listed-means _ before _ few apart kinds none_listed = rw append-nil refl
  listed-means _ before _ few apart kinds (more_listed p ps l m k ts e n v t rest) =
      let known : is_type d k.name ≡ true = rw t (All-head (λ p. is_type d p.kind ≡ true) p ps kinds) in
      let assoc = append_assoc before (p ∷ []) ps in
      let more = listed-means ps (before ++ p ∷ []) ts (rw assoc few) (rw assoc apart) (All-tail (λ p. is_type d p.kind ≡ true) p ps kinds) rest in
      rw (e, v, known, t, with_name-means p l before ps few apart n, more, assoc) refl
