-- A list of parameters that is read has 6 at most.
use Rattle.std.proofs.Common.{◌≡◌, ◌≤◌, Bool, true, false, List, [], ◌∷◌, ◌++◌, Some, None, Ok, Err, length, refl, ap, suc, arith}
use Rattle.std.specs.Bool.{if◌then◌else◌, nat_le}
use Rattle.std.specs.List.{list_any}
use Rattle.std.proofs.lemmas.Bool.{leb-false}
use Rattle.std.proofs.lemmas.List.{length-append}
use Rattle.ps_world.specs.Names.{same_name}
use Rattle.ps_world.specs.Knowledge.{is_type}
use Rattle.ps_world.specs.declared.names.Name.{Name}
use Rattle.ps_world.specs.declared.domains.Param.{Param}
use Rattle.ps_world.specs.declared.domains.Domain.{Domain}
use Rattle.ps_grammar.specs.Marks.{is}
use Rattle.ps_grammar.specs.declared.marks.Mark.TheVariants.{Minus}
use Rattle.ps_lists.specs.Nested.{Nesteds, none, more}
use Rattle.ps_lists.specs.Places.{word_of}
use Rattle.ps_pddl.specs.Lists.{kept, kind_ahead, listed, listed_type, with_name}
use Rattle.ps_conditions.specs.Steps.{◌>>=◌}
use Rattle.ps_pddl.specs.Steps.{Read, unless}
use Rattle.ps_lists.specs.declared.lexemes.Lexeme.{Lexeme}
use Rattle.ps_pddl.specs.declared.refusals.DomainRefusal.{DomainRefusal}
use Rattle.ps_pddl.specs.declared.refusals.DomainRefusal.TheVariants.{Unknown}
use Rattle.ps_pddl.specs.declared.meaning.lists.Listing.TheVariants.{Params}

kept-all : (ps : List Param) → length (kept Params ps) ≡ length ps
kept-all [] = refl
kept-all (p ∷ ps) = ap suc (kept-all ps)

passed : (b c : Bool) (one other : DomainRefusal) (xs ys : List Param) → unless (if b then Some one else (if c then Some other else None)) (Ok xs) ≡ Ok ys → (b ≡ false) × (xs ≡ ys)
passed true c one other xs ys p = absurd (cc)
passed false true one other xs ys p = absurd (cc)
passed false false one other xs ys p = (refl, cc)

-- after one name more there are 6 at most
name-few : (l : Lexeme) (kind : Name) (before all : List Param) → with_name Params l kind before ≡ Ok all → length all ≤ 6
name-few l kind before all p =
    let q = passed (nat_le 6 (length (kept Params before))) (list_any (λ x. same_name l.name x.name) before) _ _ (before ++ record { name = l.name; kind = kind } ∷ []) all p in
    rw (← q.1) (omega (arith, leb-false 6 (length (kept Params before)) q.0, kept-all before, length-append before (record { name = l.name; kind = kind } ∷ [])))

-- so it is with what is left, whatever stands before it
abbrev IsFew : Domain → Nesteds → Type 0
IsFew d ts = ((before ps : List Param) → length before ≤ 6 → listed d Params ts before ≡ Ok ps → length ps ≤ 6) × ((before ps : List Param) → length before ≤ 6 → listed_type d Params ts before ≡ Ok ps → length ps ≤ 6)

name : (d : Domain) (ts : Nesteds) (r : Read (List Param)) (l : Lexeme) (kind : Name) (before ps : List Param) → IsFew d ts → with_name Params l kind before ≡ r → (r >>= λ all. listed d Params ts all) ≡ Ok ps → length ps ≤ 6
name d ts (Ok all) l kind before ps ih e p = ih.0 all ps (name-few l kind before all e) p
name d ts (Err fault) l kind before ps ih e p = absurd (cc)

one_word : (d : Domain) (ts : Nesteds) (minus : Bool) (l : Lexeme) (before ps : List Param) → IsFew d ts → length before ≤ 6 → (if minus then listed_type d Params ts before else (with_name Params l (kind_ahead ts) before >>= λ all. listed d Params ts all)) ≡ Ok ps → length ps ≤ 6
one_word d ts true l before ps ih h p = ih.1 before ps h p
one_word d ts false l before ps ih h p = name d ts (with_name Params l (kind_ahead ts) before) l (kind_ahead ts) before ps ih refl p

one_type : (d : Domain) (ts : Nesteds) (known : Bool) (fault : DomainRefusal) (before ps : List Param) → IsFew d ts → length before ≤ 6 → (if known then listed d Params ts before else Err fault) ≡ Ok ps → length ps ≤ 6
one_type d ts true fault before ps ih h p = ih.0 before ps h p
one_type d ts false fault before ps ih h p = absurd (cc)

nothing : (before ps : List Param) → length before ≤ 6 → ◌≡◌ {A = Read (List Param)} (Ok before) (Ok ps) → length ps ≤ 6
nothing before ps h p = let q : before ≡ ps = cc in rw (← q) h

all_few : (d : Domain) (ts : Nesteds) → IsFew d ts
all_few d none = (nothing, nothing)
all_few d (more t ts) = (
  λ before ps h p. one_word d ts (is Minus (word_of t).mark) (word_of t) before ps (all_few d ts) h p,
  λ before ps h p. one_type d ts (is_type d (word_of t).name) (Unknown (word_of t).at (word_of t).name) before ps (all_few d ts) h p,
)

pub few : (d : Domain) (ts : Nesteds) (ps : List Param) → listed d Params ts [] ≡ Ok ps → length ps ≤ 6
few d ts ps p = (all_few d ts).0 [] ps (omega arith) p
