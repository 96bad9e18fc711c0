-- The words of effects mean them.
use Rattle.std.proofs.Common.{◌≡◌, ◌≤◌, ◌+◌, ℕ, All, false, List, [], ◌∷◌, ◌++◌, length, Option, Some, None, Ok, true, refl, ap, subst, append_assoc, append-nil, arith}
use Rattle.std.proofs.lemmas.List.{length-append}
use Rattle.std.proofs.lemmas.List.Elements.{All-head, All-tail}
use Rattle.ps_world.specs.CondViews.{cond_tree}
use Rattle.ps_world.specs.ExprViews.{expr_tree}
use Rattle.ps_world.specs.Names.{Table}
use Rattle.ps_world.specs.declared.domains.Param.{Param}
use Rattle.ps_world.specs.declared.domains.Domain.{Domain}
use Rattle.ps_world.specs.declared.actions.ActionDef.{ActionDef}
use Rattle.ps_world.specs.declared.actions.Effect.{Effect}
use Rattle.ps_world.specs.declared.actions.Guarded.{Guarded}
use Rattle.ps_world.specs.declared.actions.Spread.{Spread}
use Rattle.ps_world.specs.declared.actions.NumOp.{NumOp}
use Rattle.ps_world.specs.declared.actions.NumOp.TheVariants.{Assign, Increase, Decrease, ScaleUp, ScaleDown}
use Rattle.ps_grammar.specs.Marks.{is, is_predicate_name}
use Rattle.ps_grammar.specs.declared.marks.Mark.{Mark}
use Rattle.ps_grammar.specs.declared.marks.Mark.TheVariants as mark
use Rattle.ps_lists.specs.Nested.{Nested, Nesteds, word, group, none, more}
use Rattle.ps_lists.specs.declared.lexemes.Lexeme.{Lexeme}
use Rattle.ps_conditions.specs.Conditions as meant
use Rattle.ps_pddl.specs.Effects as effect
use Rattle.ps_pddl.specs.Steps.{Read, reads}
use Rattle.ps_pddl.specs.Words.{scopes}
use Rattle.ps_pddl.specs.WellFormed.{AreApart, IsEffect, IsGuarded, IsSpread}
use Rattle.ps_world.specs.declared.actions.Effects.{Effects}
use Rattle.ps_pddl.proofs.CanonicalForms.{num_op_mark, joined, IsEffectForm, an_addition, a_deletion, a_change, IsGuardedForm, plain_form, when_form, IsSpreadForm, once_form, spread_form, AreParamForms, timed, AreForms, no_items, more_items, IsStartEffect, IsEndEffect}
use Rattle.ps_pddl.proofs.CanonicalForms as form
use Rattle.ps_pddl.proofs.MeanConditions.{HaveHeads, binding-means, condition-means, fact-head, uncond-cond_tree}
use Rattle.ps_pddl.proofs.MeanMarks.{predicate-isnt, change_of-predicate}
use Rattle.ps_pddl.proofs.MeanTerms.{TakeFew, fact-means, value_of-means, value-means, untree-expr_tree}
use Rattle.ps_pddl.proofs.SoundTerms.{acting}

-- ---- heads

change_of-num_op : (how : NumOp) → effect.change_of (num_op_mark how) ≡ Some how
change_of-num_op Assign = refl
change_of-num_op Increase = refl
change_of-num_op Decrease = refl
change_of-num_op ScaleUp = refl
change_of-num_op ScaleDown = refl

num_op-isnt_and : (how : NumOp) → is mark.And (num_op_mark how) ≡ false
num_op-isnt_and Assign = refl
num_op-isnt_and Increase = refl
num_op-isnt_and Decrease = refl
num_op-isnt_and ScaleUp = refl
num_op-isnt_and ScaleDown = refl

num_op-isnt_each : (how : NumOp) → is mark.Forall (num_op_mark how) ≡ false
num_op-isnt_each Assign = refl
num_op-isnt_each Increase = refl
num_op-isnt_each Decrease = refl
num_op-isnt_each ScaleUp = refl
num_op-isnt_each ScaleDown = refl

num_op-isnt_when : (how : NumOp) → is mark.When (num_op_mark how) ≡ false
num_op-isnt_when Assign = refl
num_op-isnt_when Increase = refl
num_op-isnt_when Decrease = refl
num_op-isnt_when ScaleUp = refl
num_op-isnt_when ScaleDown = refl

num_op-isnt_not : (how : NumOp) → is mark.Not (num_op_mark how) ≡ false
num_op-isnt_not Assign = refl
num_op-isnt_not Increase = refl
num_op-isnt_not Decrease = refl
num_op-isnt_not ScaleUp = refl
num_op-isnt_not ScaleDown = refl

-- ---- how a form is read

-- the form is read as this, by its head, of which this is known
record ReadsAs {A : Type 0} (Free : Mark → Type 0) (one : Lexeme → Nesteds → Read (Option A)) (x : A) (t : Nested) : Type 0 where
  head : Lexeme
  inside : Nesteds
  same : group (more (word head) inside) ≡ t
  free : Free head.mark
  read : one head inside ≡ Ok (Some x)

-- the head is no `and`; nor `forall`; nor `when`
abbrev NoAnd : Mark → Type 0
NoAnd m = is mark.And m ≡ false

abbrev NoEach : Mark → Type 0
NoEach m = NoAnd m × (is mark.Forall m ≡ false)

abbrev NoForm : Mark → Type 0
NoForm m = NoEach m × (is mark.When m ≡ false)

read_more : {A : Type 0} (F G : Mark → Type 0) (one : Lexeme → Nesteds → Read (Option A)) (x : A) (t : Nested) → ((m : Mark) → F m → G m) → ReadsAs F one x t → ReadsAs G one x t
read_more F G one x t k r = record { head = r.head; inside = r.inside; same = r.same; free = k r.head.mark r.free; read = r.read }

flattened-means : {A : Type 0} (one : Lexeme → Nesteds → Read (Option A)) (x : A) (t : Nested) (before : List A) → ReadsAs NoAnd one x t → effect.flattened one t before ≡ Ok (before ++ x ∷ [])
flattened-means one x t before r =
    let whole : effect.flattened one (group (more (word r.head) r.inside)) before ≡ Ok (before ++ x ∷ []) = rw (r.free, r.read) refl in
    subst (λ (u : Nested). effect.flattened one u before ≡ Ok (before ++ x ∷ [])) r.same whole

module _ {A : Type 0} (one : Lexeme → Nesteds → Read (Option A)) (P : A → Nested → Type 0) (Q : A → Type 0) (each : (x : A) (t : Nested) → Q x → P x t → ReadsAs NoAnd one x t) where
  all_flattened-mean : (xs : List A) (ts : Nesteds) (before : List A) → All Q xs → AreForms P xs ts → effect.all_flattened one ts before ≡ Ok (before ++ xs)
  all_flattened-mean _ _ before h no_items = rw append-nil refl
  all_flattened-mean _ _ before h (more_items x xs t ts own rest) =
      rw (flattened-means one x t before (each x t (All-head Q x xs h) own), all_flattened-mean xs ts (before ++ x ∷ []) (All-tail Q x xs h) rest, append_assoc before (x ∷ []) xs) refl

  -- a body
  body-means : (l : Lexeme) (xs : List A) (ts : Nesteds) → l.mark ≡ mark.And → All Q xs → AreForms P xs ts → effect.flattened one (group (more (word l) ts)) [] ≡ Ok xs
  body-means l xs ts m h forms = rw (m, all_flattened-mean xs ts [] h forms) refl

-- ---- effects

module _ (names : Table) (d : Domain) (acts : List ActionDef) (ps : List Param) (apart : AreApart (λ p. p.name) ps) (predicates : TakeFew d.predicates) (functions : TakeFew d.functions) (heads : HaveHeads names d.predicates) where
  -- a head that is no change of a number is that of a predicate
  plain-added : (l : Lexeme) (ts : Nesteds) → effect.change_of l.mark ≡ None → effect.plain_effect (acting d acts) ps l ts ≡ effect.added (acting d acts) ps l ts
  plain-added l none h = refl
  plain-added l (more a none) h = refl
  plain-added l (more a (more x ts)) h = rw h refl

  flat-reads : (e : Effect) (t : Nested) → IsEffect d ps e → IsEffectForm names ps e t → ReadsAs NoForm (effect.flat_one (acting d acts) ps) e t
  flat-reads _ _ h (an_addition f _ (form.lifted _ l ts w u)) =
      let head : is_predicate_name l.mark ≡ true = rw w.mark (fact-head names d ps f heads h) in
      record {
        head = l;
        inside = ts;
        same = refl;
        free = ((predicate-isnt mark.And l.mark head refl, predicate-isnt mark.Forall l.mark head refl), predicate-isnt mark.When l.mark head refl);
        read = rw (predicate-isnt mark.Not l.mark head refl, plain-added l ts (change_of-predicate l.mark head), fact-means names d acts ps apart f l ts predicates h w u) refl;
      }
  flat-reads _ _ h (a_deletion f l t m (form.lifted _ k ts w u)) = record {
    head = l;
    inside = more t none;
    same = refl;
    free = ((ap (is mark.And) m, ap (is mark.Forall) m), ap (is mark.When) m);
    read = rw (m, fact-means names d acts ps apart f k ts predicates h w u) refl;
  }
  flat-reads _ _ h (a_change how f x l t u m (form.lifted _ k ts w v) j) = record {
    head = l;
    inside = more t (more u none);
    same = refl;
    free = ((rw m (num_op-isnt_and how), rw m (num_op-isnt_each how)), rw m (num_op-isnt_when how));
    read = rw (m, num_op-isnt_not how, change_of-num_op how, value_of-means names d acts ps apart f k ts functions h.0 w v, value-means names d acts ps apart functions (expr_tree x) u h.1 j, untree-expr_tree x) refl;
  }

  -- effects in an action with so many parameters
  module _ (own : ℕ) (many : own ≤ length ps) where
    guarded-reads : (g : Guarded) (t : Nested) → IsGuarded d own ps g → IsGuardedForm names ps g t → ReadsAs NoEach (effect.guarded_one (acting d acts) own ps) g t
    guarded-reads _ _ h (plain_form e t k) =
        let r = flat-reads e t h k in
        record { head = r.head; inside = r.inside; same = r.same; free = r.free.0; read = rw (r.free.1, r.read) refl }
    guarded-reads _ _ h (when_form c es l m t ts e k b forms) =
        let held : meant.condition reads (scopes (acting d acts) own) ps t ≡ Ok c =
        rw (condition-means names d acts own predicates functions heads ps apart many (cond_tree c) t h.0 k, uncond-cond_tree c) refl in
        let all = body-means (effect.flat_one (acting d acts) ps) (IsEffectForm names ps) (IsEffect d ps) (λ x u j own. read_more NoForm NoAnd (effect.flat_one (acting d acts) ps) x u (λ n free. free.0.0) (flat-reads x u j own)) m es ts b h.1 forms in
        record {
          head = l;
          inside = more t (more (group (more (word m) ts)) none);
          same = refl;
          free = (ap (is mark.And) e, ap (is mark.Forall) e);
          read = rw (e, held, all) refl;
        }

module _ (names : Table) (d : Domain) (acts : List ActionDef) (ps : List Param) (apart : AreApart (λ p. p.name) ps) (predicates : TakeFew d.predicates) (functions : TakeFew d.functions) (heads : HaveHeads names d.predicates) where
  spread-reads : (s : Spread) (t : Nested) → IsSpread d ps s → IsSpreadForm names ps s t → ReadsAs NoAnd (effect.spread_one (acting d acts) ps) s t
  spread-reads _ _ h (once_form g t k) =
      let r = guarded-reads names d acts ps apart predicates functions heads (length ps) (omega arith) g t h k in
      record { head = r.head; inside = r.inside; same = r.same; free = r.free.0; read = rw (r.free.1, r.read) refl }
  spread-reads _ _ h (spread_form qs gs l m vs ts e variables b forms) =
      let one = effect.guarded_one (acting d acts) (length ps) (ps ++ qs) in
      let each : (g : Guarded) (t : Nested) → IsGuarded d (length ps) (ps ++ qs) g → IsGuardedForm names (ps ++ qs) g t → ReadsAs NoAnd one g t =
      λ g t j own. read_more NoEach NoAnd one g t (λ n free. free.0) (guarded-reads names d acts (ps ++ qs) h.0.apart predicates functions heads (length ps) (omega (arith, length-append ps qs)) g t j own) in
      let all = body-means one (IsGuardedForm names (ps ++ qs)) (IsGuarded d (length ps) (ps ++ qs)) each m gs ts b h.1 forms in
      record {
        head = l;
        inside = more (group vs) (more (group (more (word m) ts)) none);
        same = refl;
        free = ap (is mark.And) e;
        read = rw (e, binding-means names d acts (length ps + 1) ps qs vs h.0 variables, all) refl;
      }

  effect-means : (s : Spread) (t : Nested) (before : List Spread) → IsSpread d ps s → IsSpreadForm names ps s t → effect.effect (acting d acts) ps t before ≡ Ok (before ++ s ∷ [])
  effect-means s t before h k = flattened-means (effect.spread_one (acting d acts) ps) s t before (spread-reads s t h k)

  -- ---- the parts of an action's effect

  pub start_effects-mean : (es : List Spread) (ts us : Nesteds) (changes : Effects) → All (IsSpread d ps) es → AreForms (IsStartEffect names ps) es ts → effect.all_timed (acting d acts) ps (joined ts us) changes ≡ effect.all_timed (acting d acts) ps us (record changes { at_start = changes.at_start ++ es })
  start_effects-mean _ _ us changes h no_items = rw append-nil refl
  start_effects-mean _ _ us changes h (more_items e es _ ts (timed l m u a b k) rest) =
      rw (a, b, effect-means e u changes.at_start (All-head (IsSpread d ps) e es h) k, start_effects-mean es ts us (record changes { at_start = changes.at_start ++ e ∷ [] }) (All-tail (IsSpread d ps) e es h) rest, append_assoc changes.at_start (e ∷ []) es) refl

  pub end_effects-mean : (es : List Spread) (ts us : Nesteds) (changes : Effects) → All (IsSpread d ps) es → AreForms (IsEndEffect names ps) es ts → effect.all_timed (acting d acts) ps (joined ts us) changes ≡ effect.all_timed (acting d acts) ps us (record changes { at_end = changes.at_end ++ es })
  end_effects-mean _ _ us changes h no_items = rw append-nil refl
  end_effects-mean _ _ us changes h (more_items e es _ ts (timed l m u a b k) rest) =
      rw (a, b, effect-means e u changes.at_end (All-head (IsSpread d ps) e es h) k, end_effects-mean es ts us (record changes { at_end = changes.at_end ++ e ∷ [] }) (All-tail (IsSpread d ps) e es h) rest, append_assoc changes.at_end (e ∷ []) es) refl
