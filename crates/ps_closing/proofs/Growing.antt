-- Places that are set one after another.
use Rattle.std.proofs.Common.{◌≡◌, ℕ, Bool, true, false, not, ◌&&◌, List, [], ◌∷◌, ◌++◌, Option, None, Contains, inl, inr, refl, ap, ◌∙◌, subst, arith}
use Rattle.std.specs.List.{list_all, list_any}
use Rattle.std.specs.Cmp.{first_so, second_so}
use Rattle.std.proofs.lemmas.List.Elements.{Contains-append_cases, Contains-append_left, Contains-push, Contains-push_cases}
use Rattle.ps_closing.specs.declared.rule.Rule.{Rule}
use Rattle.ps_closing.specs.Closing.{Gives, Grows, Within, has, is_out, is_ready}

pub one_of : {X : Type 0} (x y : X) → Contains (x ∷ []) y → x ≡ y
one_of x y c = elim (Contains-push_cases [] x y c) [ inl none ↦ absurd (omega (arith, none.1)) | inr same ↦ same ]

pub gives_none : (out : Option ℕ) (flags : List Bool) → Gives out [] flags flags
gives_none out flags = record {
  wide = refl;
  keeps = λ i e. e;
  given = λ i c o. absurd (omega (arith, c.1));
  only = λ i e. inl e;
}

pub gives_more : (out : Option ℕ) (ps : List ℕ) (p : ℕ) (a b c : List Bool) → Gives out ps a b → Gives out (p ∷ []) b c → Gives out (ps ++ p ∷ []) a c
gives_more out ps p a b c g h = record {
  wide = h.wide ∙ g.wide;
  keeps = λ i e. h.keeps i (g.keeps i e);
  given = λ i m o. elim (Contains-append_cases ps (p ∷ []) i m) [ inl old ↦ h.keeps i (g.given i old o) | inr new ↦ h.given i new o ];
  only = λ i e. elim (h.only i e) [
    | inl old ↦ elim (g.only i old) [ inl first ↦ inl first | inr w ↦ inr (Contains-append_left ps (p ∷ []) i w.0, w.1) ]
    | inr w ↦
        let P : ℕ → Type 0 = λ j. Contains (ps ++ p ∷ []) j in
        inr (subst P (one_of p i w.0) (Contains-push ps p), w.1)
  ];
}

-- ---- what rules make

pub grows_none : (out : Option ℕ) (rules : List Rule) (flags : List Bool) → Grows out rules flags flags
grows_none out rules flags = record { wide = refl; keeps = λ i e. e; least = λ set c w. w }

all_more : (flags more : List Bool) (places : List ℕ) → Within flags more → list_all (has flags) places ≡ true → list_all (has more) places ≡ true
all_more flags more [] w e = refl
all_more flags more (p ∷ ps) w e = both (has more p) (list_all (has more) ps) (w p (first_so (has flags p) (list_all (has flags) ps) e)) (all_more flags more ps w (second_so (has flags p) (list_all (has flags) ps) e))
  where
    both : (a b : Bool) → a ≡ true → b ≡ true → (a && b) ≡ true
    both true b e f = f
    both false b e f = absurd (cc)

-- what is usable stays usable
pub usable_more : (out : Option ℕ) (flags more : List Bool) (r : Rule) → Within flags more → is_ready out flags r ≡ true → is_ready out more r ≡ true
usable_more out flags more r w e =
    let rest = not (list_any (is_out out) r.own.items) in
    both (list_all (has more) r.needs.items) rest (all_more flags more r.needs.items w (first_so (list_all (has flags) r.needs.items) rest e)) (second_so (list_all (has flags) r.needs.items) rest e)
  where
    both : (a b : Bool) → a ≡ true → b ≡ true → (a && b) ≡ true
    both true b e f = f
    both false b e f = absurd (cc)

pub grows_used : (out : Option ℕ) (rules : List Rule) (r : Rule) (a b c : List Bool) → Contains rules r → is_ready out b r ≡ true → Grows out rules a b → Gives out r.gives.items b c → Grows out rules a c
grows_used out rules r a b c there usable g h = record {
  wide = h.wide ∙ g.wide;
  keeps = λ i e. h.keeps i (g.keeps i e);
  least = λ set closed w i e.
      let within = g.least set closed w in
      elim (h.only i e) [
        | inl old ↦ within i old
        | inr m ↦ closed r there (usable_more out b set r within usable) i m.0 m.1
      ];
}

-- what one of the rules makes, the rules make
pub grows_one : (out : Option ℕ) (rules : List Rule) (r : Rule) (a b : List Bool) → Contains rules r → Grows out (r ∷ []) a b → Grows out rules a b
grows_one out rules r a b there g = record {
  wide = g.wide;
  keeps = g.keeps;
  least = λ set closed w. g.least set (λ q c. let P : Rule → Type 0 = λ x. is_ready out set x ≡ true → (i : ℕ) → Contains x.gives.items i → is_out out i ≡ false → has set i ≡ true in subst P (one_of r q c) (closed r there)) w;
}

-- a rule makes what it gives
pub grows_given : (out : Option ℕ) (r : Rule) (a b : List Bool) → is_ready out a r ≡ true → Gives out r.gives.items a b → Grows out (r ∷ []) a b
grows_given out r a b ready g = grows_used out (r ∷ []) r a a b (Contains-push [] r) ready (grows_none out (r ∷ []) a) g

pub grows_on : (out : Option ℕ) (rules : List Rule) (a b c : List Bool) → Grows out rules a b → Grows out rules b c → Grows out rules a c
grows_on out rules a b c g h = record {
  wide = h.wide ∙ g.wide;
  keeps = λ i e. h.keeps i (g.keeps i e);
  least = λ set closed w. h.least set closed (g.least set closed w);
}

-- ---- where nothing is left out

pub none_left : (places : List ℕ) → list_any (is_out None) places ≡ false
none_left [] = refl
none_left (i ∷ places) = none_left places

and_true : (a : Bool) → (a && true) ≡ a
and_true true = refl
and_true false = refl

-- a rule is usable where what it needs is set
pub ready_so : (flags : List Bool) (r : Rule) → is_ready None flags r ≡ list_all (has flags) r.needs.items
ready_so flags r = let all = list_all (has flags) r.needs.items in ap (λ b. all && not b) (none_left r.own.items) ∙ and_true all

-- ---- a rule that is usable

pub ready_from : (out : Option ℕ) (flags : List Bool) (r : Rule) → list_all (has flags) r.needs.items ≡ true → list_any (is_out out) r.own.items ≡ false → is_ready out flags r ≡ true
ready_from out flags r e f = ap (λ b. list_all (has flags) r.needs.items && not b) f ∙ and_true (list_all (has flags) r.needs.items) ∙ e
