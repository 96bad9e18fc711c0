-- What suits the domain goes on to suit it where its names stay instances.
use Rattle.std.proofs.Common.{◌≡◌, ◌==◌, ◌⊎◌, ℕ, ◌+◌, Bool, true, false, ◌||◌, if◌then◌else◌, List, [], ◌∷◌, ◌++◌, Option, Some, None, is_none, inl, inr, refl, length, arith}
use Rattle.std.specs.List.{AllZip}
use Rattle.std.proofs.lemmas.Bool.{eqb-true}
use Rattle.ps_world.specs.Names.{same_name}
use Rattle.ps_world.specs.Trees.{ExprTree, number, value_of, negated, operated, CondTree, CondTrees, all_of, any_of, no, implied, holds, same, compares, is_a, for_some, for_all, none, more}
use Rattle.ps_world.specs.Knowledge.{kind_of, is_below, predicate_of, function_of, or_else, first_fault, misfit, first_misfit, unsuited, unsuited_by, misfit_of_term, kinds_of, fault_of_bound, fault_of_side, fault_of_expr, fault_of_cond, fault_of_conds, is_among, term_names, terms_name, expr_names, cond_names, conds_name}
use Rattle.ps_world.specs.declared.names.Name.{Name}
use Rattle.ps_world.specs.declared.schemas.Term.{Term}
use Rattle.ps_world.specs.declared.schemas.Term.TheVariants.{Var, Const}
use Rattle.ps_world.specs.declared.domains.Param.{Param}
use Rattle.ps_world.specs.declared.domains.Decl.{Decl}
use Rattle.ps_world.specs.declared.domains.Domain.{Domain}
use Rattle.ps_world.specs.declared.known.Knowledge.{Knowledge}
use Rattle.ps_world.specs.declared.edits.EditRefusal.{EditRefusal}
use Rattle.ps_world.specs.declared.edits.EditRefusal.TheVariants.{NoInstance, NoPredicate, NoFunction, Arity, WrongType}
use Rattle.ps_problem.specs.WellKnown.{Fits, Suits}

-- ---- what has no fault suits

below : (d : Domain) (k : Knowledge) (p : Param) (n kind : Name) (at : ℕ) (rest : Option EditRefusal) (b : Bool) → kind_of k n ≡ Some kind → is_below d kind p.kind ≡ b → or_else (if b then None else Some (WrongType at)) rest ≡ None → Fits d k p n × (rest ≡ None)
below d k p n kind at rest true f s e = ((kind, f, s), e)
below d k p n kind at rest false f s e = cc

fits : (d : Domain) (k : Knowledge) (p : Param) (n : Name) (at : ℕ) (rest : Option EditRefusal) (o : Option Name) → kind_of k n ≡ o → or_else (misfit d o p.kind n at) rest ≡ None → Fits d k p n × (rest ≡ None)
fits d k p n at rest None f e = cc
fits d k p n at rest (Some kind) f e = below d k p n kind at rest (is_below d kind p.kind) f refl e

all_fit : (d : Domain) (k : Knowledge) (ps : List Param) (ns : List Name) (at : ℕ) → length ps ≡ length ns → first_misfit d k ps ns at ≡ None → AllZip (Fits d k) ps ns
all_fit d k [] [] at l e = tt
all_fit d k [] (n ∷ ns) at l e = absurd (omega arith)
all_fit d k (p ∷ ps) [] at l e = absurd (omega arith)
all_fit d k (p ∷ ps) (n ∷ ns) at l e =
    let h = fits d k p n at (first_misfit d k ps ns (at + 1)) (kind_of k n) refl e in
    (h.0, all_fit d k ps ns (at + 1) (omega arith) h.1)

counted : (d : Domain) (k : Knowledge) (decl : Decl) (ns : List Name) (b : Bool) → (length decl.params == length ns) ≡ b → (if b then first_misfit d k decl.params ns 0 else Some (Arity (length decl.params) (length ns))) ≡ None → AllZip (Fits d k) decl.params ns
counted d k decl ns true s e = all_fit d k decl.params ns 0 (eqb-true _ _ s) e
counted d k decl ns false s e = cc

declared : (missing : EditRefusal) (d : Domain) (k : Knowledge) (o whole : Option Decl) (ns : List Name) → whole ≡ o → unsuited missing d k o ns ≡ None → Suits d k whole ns
declared missing d k None whole ns p e = cc
declared missing d k (Some decl) whole ns p e = (decl, p, counted d k decl ns (length decl.params == length ns) refl e)

pub suits_from : (missing : EditRefusal) (d : Domain) (k : Knowledge) (o : Option Decl) (ns : List Name) → unsuited missing d k o ns ≡ None → Suits d k o ns
suits_from missing d k o ns e = declared missing d k o o ns refl e

or_none : (a b : Option EditRefusal) → or_else a b ≡ None → (a ≡ None) × (b ≡ None)
or_none None b e = (refl, e)
or_none (Some r) b e = cc

none_or : (a b : Option EditRefusal) → a ≡ None → b ≡ None → or_else a b ≡ None
none_or None b p q = q
none_or (Some r) b p q = cc

rest_none : (a b c : Option EditRefusal) → (b ≡ None → c ≡ None) → or_else a b ≡ None → or_else a c ≡ None
rest_none None b c so e = so e
rest_none (Some r) b c so e = absurd (cc)

known_from : (k : Knowledge) (n : Name) (o : Option Name) → kind_of k n ≡ o → (if is_none o then Some (NoInstance n) else None) ≡ None → (t : Name) × (kind_of k n ≡ Some t)
known_from k n None f e = absurd (cc)
known_from k n (Some t) f e = (t, f)

-- the test is false, or nothing is asked of it
abbrev pub Spared : Type 0 → Bool → Type 0
Spared all b = (b ≡ false) ⊎ all

spared_or : (all : Type 0) (a b : Bool) → Spared all (a || b) → Spared all a × Spared all b
spared_or all true b (inl e) = absurd (cc)
spared_or all false b (inl e) = (inl refl, inl e)
spared_or all a b (inr x) = (inr x, inr x)

-- all names stay instances of their types, or all but n do
module _ (d : Domain) (k new : Knowledge) (n : Name) (all : Type 0) (keeps : (m t : Name) → Spared all (same_name n m) → kind_of k m ≡ Some t → kind_of new m ≡ Some t) where
  all_stay : (ps : List Param) (ns : List Name) → Spared all (is_among n ns) → AllZip (Fits d k) ps ns → AllZip (Fits d new) ps ns
  all_stay [] [] s a = tt
  all_stay [] (m ∷ ns) s a = absurd a
  all_stay (p ∷ ps) [] s a = absurd a
  all_stay (p ∷ ps) (m ∷ ns) s a =
      let both = spared_or all (same_name n m) (is_among n ns) s in
      let h = a.0 in
      ((h.0, keeps m h.0 both.0 h.1, h.2), all_stay ps ns both.1 a.1)

  pub suits_stay : (o : Option Decl) (ns : List Name) → Spared all (is_among n ns) → Suits d k o ns → Suits d new o ns
  suits_stay o ns s t = (t.0, t.1, all_stay t.0.params ns s t.2)

  -- ---- goals

  name_fits : (m want : Name) (at : ℕ) (o : Option Name) → kind_of k m ≡ o → Spared all (same_name n m) → misfit d o want m at ≡ None → misfit d (kind_of new m) want m at ≡ None
  name_fits m want at None f s e = absurd (cc)
  name_fits m want at (Some kind) f s e = rw (keeps m kind s f) e

  -- where these are the types of the variables in force
  module _ (kinds : List Name) where
    term_fits : (t : Term) (want : Name) (at : ℕ) → Spared all (term_names n t) → misfit_of_term d k kinds t want at ≡ None → misfit_of_term d new kinds t want at ≡ None
    term_fits (Var i) want at s e = e
    term_fits (Const m) want at s e = name_fits m want at (kind_of k m) refl s e

    terms_fit : (ps : List Param) (ts : List Term) (at : ℕ) → Spared all (terms_name n ts) → first_fault (misfit_of_term d k kinds) ps ts at ≡ None → first_fault (misfit_of_term d new kinds) ps ts at ≡ None
    terms_fit [] ts at s e = refl
    terms_fit (p ∷ ps) [] at s e = refl
    terms_fit (p ∷ ps) (t ∷ ts) at s e =
        let both = spared_or all (term_names n t) (terms_name n ts) s in
        let h = or_none (misfit_of_term d k kinds t p.kind at) (first_fault (misfit_of_term d k kinds) ps ts (at + 1)) e in
        none_or (misfit_of_term d new kinds t p.kind at) (first_fault (misfit_of_term d new kinds) ps ts (at + 1)) (term_fits t p.kind at both.0 h.0)
        (terms_fit ps ts (at + 1) both.1 h.1)

    counted_fit : (decl : Decl) (ts : List Term) (b : Bool) → Spared all (terms_name n ts)
        → (if b then first_fault (misfit_of_term d k kinds) decl.params ts 0 else Some (Arity (length decl.params) (length ts))) ≡ None
        → (if b then first_fault (misfit_of_term d new kinds) decl.params ts 0 else Some (Arity (length decl.params) (length ts))) ≡ None
    counted_fit decl ts true s e = terms_fit decl.params ts 0 s e
    counted_fit decl ts false s e = absurd (cc)

    unsuited_stays : (missing : EditRefusal) (o : Option Decl) (ts : List Term) → Spared all (terms_name n ts) → unsuited_by (misfit_of_term d k kinds) missing o ts ≡ None → unsuited_by (misfit_of_term d new kinds) missing o ts ≡ None
    unsuited_stays missing None ts s e = absurd (cc)
    unsuited_stays missing (Some decl) ts s e = counted_fit decl ts (length decl.params == length ts) s e

    expr_stays : (x : ExprTree) → Spared all (expr_names n x) → fault_of_expr d k kinds x ≡ None → fault_of_expr d new kinds x ≡ None
    expr_stays (number m) s e = refl
    expr_stays (value_of l) s e = unsuited_stays NoFunction (function_of d l.head) l.terms s e
    expr_stays (negated x) s e = expr_stays x s e
    expr_stays (operated op x y) s e =
        let both = spared_or all (expr_names n x) (expr_names n y) s in
        let h = or_none (fault_of_expr d k kinds x) (fault_of_expr d k kinds y) e in
        none_or (fault_of_expr d new kinds x) (fault_of_expr d new kinds y) (expr_stays x both.0 h.0) (expr_stays y both.1 h.1)

  side_stays : (t : Term) → Spared all (term_names n t) → fault_of_side k t ≡ None → fault_of_side new t ≡ None
  side_stays (Var i) s e = refl
  side_stays (Const m) s e =
      let h = known_from k m (kind_of k m) refl e in
      let there = keeps m h.0 s h.1 in
      rw there refl

  mutual
    cond_stays_in : (kinds : List Name) (c : CondTree) → Spared all (cond_names n c) → fault_of_cond d k kinds c ≡ None → fault_of_cond d new kinds c ≡ None
    cond_stays_in kinds (all_of cs) s e = conds_stay kinds cs s e
    cond_stays_in kinds (any_of cs) s e = conds_stay kinds cs s e
    cond_stays_in kinds (no c) s e = cond_stays_in kinds c s e
    cond_stays_in kinds (implied a b) s e =
        let both = spared_or all (cond_names n a) (cond_names n b) s in
        let h = or_none (fault_of_cond d k kinds a) (fault_of_cond d k kinds b) e in
        none_or (fault_of_cond d new kinds a) (fault_of_cond d new kinds b) (cond_stays_in kinds a both.0 h.0) (cond_stays_in kinds b both.1 h.1)
    cond_stays_in kinds (holds l) s e = unsuited_stays kinds NoPredicate (predicate_of d l.head) l.terms s e
    cond_stays_in kinds (same one other) s e =
        let both = spared_or all (term_names n one) (term_names n other) s in
        let h = or_none (fault_of_side k one) (fault_of_side k other) e in
        none_or (fault_of_side new one) (fault_of_side new other) (side_stays one both.0 h.0) (side_stays other both.1 h.1)
    cond_stays_in kinds (compares rel x y) s e =
        let both = spared_or all (expr_names n x) (expr_names n y) s in
        let h = or_none (fault_of_expr d k kinds x) (fault_of_expr d k kinds y) e in
        none_or (fault_of_expr d new kinds x) (fault_of_expr d new kinds y) (expr_stays kinds x both.0 h.0) (expr_stays kinds y both.1 h.1)
    cond_stays_in kinds (is_a t kind) s e = refl
    cond_stays_in kinds (for_some ps c) s e =
        rest_none (fault_of_bound d ps) (fault_of_cond d k (kinds ++ kinds_of ps) c) (fault_of_cond d new (kinds ++ kinds_of ps) c)
        (cond_stays_in (kinds ++ kinds_of ps) c s) e
    cond_stays_in kinds (for_all ps c) s e =
        rest_none (fault_of_bound d ps) (fault_of_cond d k (kinds ++ kinds_of ps) c) (fault_of_cond d new (kinds ++ kinds_of ps) c)
        (cond_stays_in (kinds ++ kinds_of ps) c s) e

    conds_stay : (kinds : List Name) (cs : CondTrees) → Spared all (conds_name n cs) → fault_of_conds d k kinds cs ≡ None → fault_of_conds d new kinds cs ≡ None
    conds_stay kinds none s e = refl
    conds_stay kinds (more c cs) s e =
        let both = spared_or all (cond_names n c) (conds_name n cs) s in
        let h = or_none (fault_of_cond d k kinds c) (fault_of_conds d k kinds cs) e in
        none_or (fault_of_cond d new kinds c) (fault_of_conds d new kinds cs) (cond_stays_in kinds c both.0 h.0) (conds_stay kinds cs both.1 h.1)

  pub cond_stays : (c : CondTree) → Spared all (cond_names n c) → fault_of_cond d k [] c ≡ None → fault_of_cond d new [] c ≡ None
  cond_stays c s e = cond_stays_in [] c s e
