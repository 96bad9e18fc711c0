-- Lists of variables that a quantifier binds: they follow those in force, and are few.
use Rattle.std.proofs.Common.{◌≡◌, ◌≤◌, ◌<◌, ◌+◌, nat_le, ℕ, max, List, [], ◌∷◌, ◌++◌, drop, length, Ok, Err, refl, sym, ap, subst, ◌∙◌, append_assoc, append-nil, arith}
use Rattle.std.specs.List.{list_any}
use Rattle.std.proofs.lemmas.Bool.{leb-false}
use Rattle.std.proofs.lemmas.List.{length-append, length-drop}
use Rattle.std.proofs.Math.Seq.{drop-append_seam}
use Rattle.ps_world.specs.Names.{same_name}
use Rattle.ps_world.specs.Knowledge.{is_type}
use Rattle.ps_world.specs.declared.names.Name.{Name}
use Rattle.ps_world.specs.declared.domains.Param.{Param}
use Rattle.ps_world.specs.declared.domains.Domain.{Domain}
use Rattle.ps_grammar.specs.Marks.{is}
use Rattle.ps_grammar.specs.declared.marks.Mark.TheVariants.{Minus}
use Rattle.ps_lists.specs.Nested.{Nesteds, none, more}
use Rattle.ps_lists.specs.Places.{word_of}
use Rattle.ps_lists.specs.declared.lexemes.Lexeme.{Lexeme}
use Rattle.ps_conditions.specs.Steps.{◌>>=◌}
use Rattle.ps_pddl.specs.Lists.{cap_of, counted, kept, kind_ahead, listed, listed_type, with_name}
use Rattle.ps_pddl.specs.declared.meaning.lists.Listing.{Listing}
use Rattle.ps_pddl.specs.declared.meaning.lists.Listing.TheVariants.{Bound}
use Rattle.ps_pddl.specs.declared.refusals.DomainRefusal.TheVariants.{Limit, Twice, Unknown}
use Rattle.ps_pddl.proofs.Sound.{Sound, also_sound, either_sound, then_sound, unless_sound}
use Rattle.ps_pddl.proofs.SoundLists.{Adds, name_adds}

-- each variable counts
pub kept_bound : (most : ℕ) (ps : List Param) → kept (Bound most) ps ≡ ps
kept_bound most [] = refl
kept_bound most (p ∷ ps) = ap (λ more. p ∷ more) (kept_bound most ps)

-- ---- what is listed begins with what stood before

-- these follow those before
abbrev Follows : List Param → List Param → Type 0
Follows before all = (more : List Param) × (all ≡ before ++ more)

module _ (d : Domain) (listing : Listing) where
  mutual
    listed_follows : (ts : Nesteds) (before : List Param) → Sound (Follows before) (listed d listing ts before)
    listed_follows none before = ([], sym (append-nil before))
    listed_follows (more t ts) before =
        let l : Lexeme = word_of t in
        let new : Param = record { name = l.name; kind = kind_ahead ts } in
        either_sound (Follows before) (is Minus l.mark) (listed_type d listing ts before) (with_name listing l (kind_ahead ts) before >>= λ all. listed d listing ts all)
        (λ e. type_follows ts before)
        (λ e. then_sound (Adds before l (kind_ahead ts)) (Follows before) (with_name listing l (kind_ahead ts) before) (λ all. listed d listing ts all) (name_adds listing l (kind_ahead ts) before)
        (λ all added. also_sound (Follows all) (Follows before) (listed d listing ts all) (listed_follows ts all)
        (λ x p. (new ∷ p.0, p.1 ∙ ap (λ y. y ++ p.0) added ∙ append_assoc before (new ∷ []) p.0))))

    type_follows : (ts : Nesteds) (before : List Param) → Sound (Follows before) (listed_type d listing ts before)
    type_follows none before = ([], sym (append-nil before))
    type_follows (more t ts) before =
        either_sound (Follows before) (is_type d (word_of t).name) (listed d listing ts before) (Err (Unknown (word_of t).at (word_of t).name)) (λ e. listed_follows ts before) (λ e. tt)

  follows_whole : (before all : List Param) → Follows before all → before ++ drop (length before) all ≡ all
  follows_whole before all p = rw (p.1, drop-append_seam before p.0) refl

  pub listed_begins : (ts : Nesteds) (before : List Param) → Sound (λ all. before ++ drop (length before) all ≡ all) (listed d listing ts before)
  listed_begins ts before = also_sound (Follows before) (λ all. before ++ drop (length before) all ≡ all) (listed d listing ts before) (listed_follows ts before) (follows_whole before)

  pub begins_with : (ts : Nesteds) (before all : List Param) → listed d listing ts before ≡ Ok all → before ++ drop (length before) all ≡ all
  begins_with ts before all e = subst (Sound (λ all. before ++ drop (length before) all ≡ all)) e (listed_begins ts before)

  pub listed_longer : (ts : Nesteds) (before all : List Param) → listed d listing ts before ≡ Ok all → length before ≤ length all
  listed_longer ts before all e = rw (sym (begins_with ts before all e)) (omega (arith, length-append before (drop (length before) all)))

-- ---- there are few

module _ (d : Domain) (most : ℕ) where
  abbrev IsFew : List Param → List Param → Type 0
  IsFew before all = length all ≤ max most (length before)

  -- a name more, where there is room
  abbrev Grows : List Param → List Param → Type 0
  Grows before all = (length all ≡ length before + 1) × (length before < most)

  name_grows : (l : Lexeme) (kind : Name) (before : List Param) → Sound (Grows before) (with_name (Bound most) l kind before)
  name_grows l kind before =
      let p : Param = record { name = l.name; kind = kind } in
      unless_sound (Grows before) (nat_le most (counted (Bound most) p before)) (list_any (λ q. same_name l.name q.name) before) (Limit l.at (cap_of (Bound most))) (Twice l.at l.name) (Ok (before ++ p ∷ []))
      (λ few new. (omega (arith, length-append before (p ∷ [])), omega (arith, leb-false most (counted (Bound most) p before) few, ap length (kept_bound most before))))

  mutual
    listed_few : (ts : Nesteds) (before : List Param) → Sound (IsFew before) (listed d (Bound most) ts before)
    listed_few none before = omega arith
    listed_few (more t ts) before =
        let l : Lexeme = word_of t in
        either_sound (IsFew before) (is Minus l.mark) (listed_type d (Bound most) ts before) (with_name (Bound most) l (kind_ahead ts) before >>= λ all. listed d (Bound most) ts all)
        (λ e. type_few ts before)
        (λ e. then_sound (Grows before) (IsFew before) (with_name (Bound most) l (kind_ahead ts) before) (λ all. listed d (Bound most) ts all) (name_grows l (kind_ahead ts) before)
        (λ all grown. also_sound (IsFew all) (IsFew before) (listed d (Bound most) ts all) (listed_few ts all) (λ x few. omega (arith, few, grown.0, grown.1))))

    type_few : (ts : Nesteds) (before : List Param) → Sound (IsFew before) (listed_type d (Bound most) ts before)
    type_few none before = omega arith
    type_few (more t ts) before =
        either_sound (IsFew before) (is_type d (word_of t).name) (listed d (Bound most) ts before) (Err (Unknown (word_of t).at (word_of t).name)) (λ e. listed_few ts before) (λ e. tt)

  pub few : (ts : Nesteds) (before all : List Param) → listed d (Bound most) ts before ≡ Ok all → length all ≤ max most (length before)
  few ts before all e = subst (Sound (IsFew before)) e (listed_few ts before)

-- so where two more may be in force, and eight in all, a list binds 6 at most, and there are 8 then
pub few_bound : (d : Domain) (most : ℕ) (ts : Nesteds) (before all : List Param) → most ≤ length before + 2 → most ≤ 8 → length before ≤ 8 → listed d (Bound most) ts before ≡ Ok all → (length (drop (length before) all) ≤ 6) × (length (before ++ drop (length before) all) ≤ 8)
few_bound d most ts before all new in_force less e =
    let below = few d most ts before all e in
    let whole = begins_with d (Bound most) ts before all e in
    (omega (arith, length-drop (length before) all, below, new, in_force, less), rw whole (omega (arith, below, in_force, less)))
