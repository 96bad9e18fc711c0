-- Ground actions, taken by their places, act as is asked for where orders of acts are said to go well.
use Rattle.std.proofs.Common.{◌≡◌, ℕ, ◌<◌, Bool, true, false, ◌||◌, Option, Some, None, is_some, Result, Ok, Err, List, All, slice_get, refl, sym, ◌∙◌, subst}
use Rattle.std.specs.Result.{result_ok}
use Rattle.std.proofs.lemmas.Bool.{or_left, or_right}
use Rattle.ps_world.specs.declared.domains.Domain.{Domain}
use Rattle.ps_world.specs.declared.known.Knowledge.{Knowledge}
use Rattle.ps_action.specs.Effects.{effect}
use Rattle.ps_action.specs.Truth.{all_true}
use Rattle.ps_action.specs.declared.acts.GroundAction.{GroundAction}
use Rattle.ps_action.specs.declared.refusals.EffectRefusal.{EffectRefusal}
use Rattle.ps_action.specs.declared.touched.Touched.{Touched}
use Rattle.ps_action.specs.declared.touched.Touched.TheVariants.{Fact, Value, Instance, Facts, Values, Instances}
use Rattle.ps_eval.specs.Laws.{Agree}
use Rattle.ps_order_laws.specs.Acts.{Acts, Acting, AreSame, IsCondition, IsEffect}
use Rattle.ps_action.specs.Arcs.{changes, is_arc, read_by_action, reads}
use Rattle.ps_action.specs.Things.{Thing, a_fact, a_value, is_met, touched}
use Rattle.ps_action.proofs.ArcTables.{true_false}
use Rattle.ps_action.proofs.Meeting.{only_things}
use Rattle.ps_arcs.specs.Laws.{EndAlike, LeavesAlone, LeavesOthers}
use Rattle.ps_arcs.proofs.Alike.{conditions_read_things, effects_leave_others, effects_read_things}
use Rattle.ps_arcs.proofs.Alone.{no_arc_leaves_alone}
use Rattle.ps_arcs.proofs.Meeting.{changes_things, each_so, found_so}

-- ---- what is read and changed

-- what may be the same in two states: one fact or value, or else, where none of these is named, all instances and the goal
abbrev pub Told : Type 0
Told = Option Thing

-- two states are the same there
abbrev pub SameAt : Knowledge → Knowledge → Told → Type 0
SameAt k l None = (k.instances ≡ l.instances) × (k.goal ≡ l.goal)
SameAt k l (Some x) = Agree k l (touched x)

-- whether a ground action reads this, where each one reads the instances
abbrev read_at : Option GroundAction → Told → Bool
read_at o None = true
read_at None (Some x) = false
read_at (Some a) (Some x) = is_met x (reads a)

-- whether it changes this, where none changes the instances or the goal
abbrev changed_at : Option GroundAction → Told → Bool
changed_at o None = false
changed_at None (Some x) = false
changed_at (Some a) (Some x) = is_met x (changes a)

abbrev touched_at : Option GroundAction → Told → Bool
touched_at o x = read_at o x || changed_at o x

-- ---- what is looked at and done

-- whether the start condition is true, which it is where no ground action stands
abbrev pub starts : Domain → Option GroundAction → Knowledge → Bool
starts d None k = true
starts d (Some a) k = all_true d k a.conditions.at_start

-- the same of the over-all condition
abbrev pub lasts : Domain → Option GroundAction → Knowledge → Bool
lasts d None k = true
lasts d (Some a) k = all_true d k a.conditions.over_all

-- the same of the end condition
abbrev pub closes : Domain → Option GroundAction → Knowledge → Bool
closes d None k = true
closes d (Some a) k = all_true d k a.conditions.at_end

-- the knowledge after the start effects, which is the same where no ground action stands
abbrev pub begun : Domain → Option GroundAction → Knowledge → Option Knowledge
begun d None k = Some k
begun d (Some a) k = result_ok (effect d k a.effects.at_start)

-- the same of the end effects
abbrev pub finished : Domain → Option GroundAction → Knowledge → Option Knowledge
finished d None k = Some k
finished d (Some a) k = result_ok (effect d k a.effects.at_end)

-- ground actions as acts by their places
abbrev pub acts_of : Domain → List GroundAction → Acts Knowledge Told
acts_of d gs = record {
  start = λ i. starts d (slice_get gs i);
  over = λ i. lasts d (slice_get gs i);
  end = λ i. closes d (slice_get gs i);
  begin = λ i. begun d (slice_get gs i);
  finish = λ i. finished d (slice_get gs i);
  reads = λ i. read_at (slice_get gs i);
  changes = λ i. changed_at (slice_get gs i);
  arc = is_arc gs;
}

-- ---- being the same

-- a state is the same as itself
pub agree_itself : (k : Knowledge) (t : Touched) → Agree k k t
agree_itself k (Fact f) = refl
agree_itself k (Value f) = refl
agree_itself k (Instance n) = refl
agree_itself k (Facts p) = λ f at. refl
agree_itself k (Values p) = λ f at. refl
agree_itself k Instances = refl

turned_at : (k l : Knowledge) (x : Thing) → Agree k l (touched x) → Agree l k (touched x)
turned_at k l (a_fact f) e = sym e
turned_at k l (a_value f) e = sym e

joined_at : (k l m : Knowledge) (x : Thing) → Agree k l (touched x) → Agree l m (touched x) → Agree k m (touched x)
joined_at k l m (a_fact f) e g = e ∙ g
joined_at k l m (a_value f) e g = e ∙ g

itself : (k : Knowledge) (x : Told) → SameAt k k x
itself k None = (refl, refl)
itself k (Some x) = agree_itself k (touched x)

turned : (k l : Knowledge) (x : Told) → SameAt k l x → SameAt l k x
turned k l None h = (sym h.0, sym h.1)
turned k l (Some x) h = turned_at k l x h

joined : (k l m : Knowledge) (x : Told) → SameAt k l x → SameAt l m x → SameAt k m x
joined k l m None g h = (g.0 ∙ h.0, g.1 ∙ h.1)
joined k l m (Some x) g h = joined_at k l m x g h

-- ---- conditions

read_same : (a : GroundAction) (k l : Knowledge) → AreSame SameAt (read_at (Some a)) k l → All (Agree k l) (reads a)
read_same a k l s = each_so k l (reads a) (only_things (read_by_action a)) (λ x e. s (Some x) e)

starts_read : (d : Domain) (o : Option GroundAction) → IsCondition SameAt (read_at o) (starts d o)
starts_read d None k l s = refl
starts_read d (Some a) k l s = (conditions_read_things d k l a (s None refl).0 (read_same a k l s)).0

lasts_read : (d : Domain) (o : Option GroundAction) → IsCondition SameAt (read_at o) (lasts d o)
lasts_read d None k l s = refl
lasts_read d (Some a) k l s = (conditions_read_things d k l a (s None refl).0 (read_same a k l s)).1

closes_read : (d : Domain) (o : Option GroundAction) → IsCondition SameAt (read_at o) (closes d o)
closes_read d None k l s = refl
closes_read d (Some a) k l s = (conditions_read_things d k l a (s None refl).0 (read_same a k l s)).2

-- ---- effects

module _ (k l : Knowledge) (ts : List Touched) where
  both_defined : (r s : Result Knowledge EffectRefusal) → EndAlike k l ts r s → is_some (result_ok r) ≡ is_some (result_ok s)
  both_defined (Ok m) (Ok o) h = refl
  both_defined (Ok m) (Err o) h = absurd h
  both_defined (Err m) (Ok o) h = absurd h
  both_defined (Err m) (Err o) h = refl

  ends_same : (r s : Result Knowledge EffectRefusal) → EndAlike k l ts r s → (m o : Knowledge) → result_ok r ≡ Some m → result_ok s ≡ Some o → All (Agree m o) ts
  ends_same (Ok p) (Ok q) h m o e f =
      let left : p ≡ m = cc in
      let right : q ≡ o = cc in
      subst (λ x. All (Agree x o) ts) left (subst (λ y. All (Agree p y) ts) right h.0)
  ends_same (Ok p) (Err q) h m o e f = absurd h
  ends_same (Err p) (Ok q) h m o e f = absurd h
  ends_same (Err p) (Err q) h m o e f = absurd (cc)

all_changed : (a : GroundAction) (m o : Knowledge) → All (Agree m o) (changes a) → AreSame SameAt (changed_at (Some a)) m o
all_changed a m o h None e = absurd (cc)
all_changed a m o h (Some x) e = found_so m o (changes a) h x e

others_stay : (a : GroundAction) (k m : Knowledge) (r : Result Knowledge EffectRefusal) → LeavesOthers k (changes a) r → result_ok r ≡ Some m → (x : Told) → changed_at (Some a) x ≡ false → SameAt k m x
others_stay a k m (Err r) h e x c = absurd (cc)
others_stay a k m (Ok new) h e None c = let same : new ≡ m = cc in subst (λ l. SameAt k l None) same (sym h.1, sym h.2)
others_stay a k m (Ok new) h e (Some x) c =
    let same : new ≡ m = cc in
    subst (λ l. Agree k l (touched x)) same (turned_at new k x (h.0 x c))

-- these effects of a ground action act by what it reads and changes alone
abbrev ActAlike : GroundAction → (Knowledge → Result Knowledge EffectRefusal) → Type 0
ActAlike a act =
    (k l : Knowledge) → k.instances ≡ l.instances → All (Agree k l) (reads a) → All (Agree k l) (changes a) → EndAlike k l (changes a) (act k) (act l)

-- and they leave all else as it was
abbrev LeaveOthers : GroundAction → (Knowledge → Result Knowledge EffectRefusal) → Type 0
LeaveOthers a act = (k : Knowledge) → LeavesOthers k (changes a) (act k)

module _ (a : GroundAction) (act : Knowledge → Result Knowledge EffectRefusal) (alike : ActAlike a act) (leaves : LeaveOthers a act) where
  ends_alike : (k l : Knowledge) → AreSame SameAt (touched_at (Some a)) k l → EndAlike k l (changes a) (act k) (act l)
  ends_alike k l s =
      let read = each_so k l (reads a) (only_things (read_by_action a)) (λ x e. s (Some x) (or_left (is_met x (reads a)) (is_met x (changes a)) e)) in
      let changed = each_so k l (changes a) (changes_things a) (λ x e. s (Some x) (or_right (is_met x (reads a)) (is_met x (changes a)) e)) in
      alike k l (s None refl).0 read changed

  is_effect : IsEffect SameAt (touched_at (Some a)) (changed_at (Some a)) (λ k. result_ok (act k))
  is_effect = record {
    defined = λ k l s. both_defined k l (changes a) (act k) (act l) (ends_alike k l s);
    alike = λ k l m o s e f. all_changed a m o (ends_same k l (changes a) (act k) (act l) (ends_alike k l s) m o e f);
    others = λ k m e. others_stay a k m (act k) (leaves k) e;
  }

-- where no ground action stands nothing changes
none_changed : (x : Told) → changed_at None x ≡ false
none_changed None = refl
none_changed (Some x) = refl

no_effect : IsEffect SameAt (touched_at None) (changed_at None) (λ k. Some k)
no_effect = record {
  defined = λ k l s. refl;
  alike = λ k l m o s e f x c. absurd (true_false (changed_at None x) c (none_changed x));
  others = λ k m e x c. let same : k ≡ m = cc in subst (λ l. SameAt k l x) same (itself k x);
}

begun_effect : (d : Domain) (o : Option GroundAction) → IsEffect SameAt (touched_at o) (changed_at o) (begun d o)
begun_effect d None = no_effect
begun_effect d (Some a) =
    is_effect a (λ k. effect d k a.effects.at_start) (λ k l same read changed. (effects_read_things d k l a same read changed).0)
    (λ k. (effects_leave_others d k a).0)

finished_effect : (d : Domain) (o : Option GroundAction) → IsEffect SameAt (touched_at o) (changed_at o) (finished d o)
finished_effect d None = no_effect
finished_effect d (Some a) =
    is_effect a (λ k. effect d k a.effects.at_end) (λ k l same read changed. (effects_read_things d k l a same read changed).1)
    (λ k. (effects_leave_others d k a).1)

-- ---- no arc

-- if the first one changes this, the second neither reads nor changes it
abbrev Untouched : Option GroundAction → Option GroundAction → Told → Type 0
Untouched o p x = changed_at o x ≡ true → touched_at p x ≡ false

untouched : (a b : GroundAction) → LeavesAlone a b → (x : Told) → Untouched (Some a) (Some b) x
untouched a b h None e = absurd (cc)
untouched a b h (Some x) e =
    let w = h x e in
    λ i. w.0 i || w.1 i

none_untouched : (o : Option GroundAction) (x : Told) → Untouched o None x
none_untouched o None e = absurd (cc)
none_untouched o (Some x) e = refl

by_none_untouched : (p : Option GroundAction) (x : Told) → Untouched None p x
by_none_untouched p x e = absurd (true_false (changed_at None x) e (none_changed x))

module _ (gs : List GroundAction) (i j : ℕ) (below : i < j) (e : is_arc gs i j ≡ false) where
  apart_at : (o p : Option GroundAction) → slice_get gs i ≡ o → slice_get gs j ≡ p → (x : Told) → Untouched o p x × Untouched p o x
  apart_at None p one other x = (by_none_untouched p x, none_untouched p x)
  apart_at (Some a) None one other x = (none_untouched (Some a) x, by_none_untouched (Some a) x)
  apart_at (Some a) (Some b) one other x =
      let w = no_arc_leaves_alone gs i j a b below one other e in
      (untouched a b w.0 x, untouched b a w.1 x)

pub acting : (d : Domain) (gs : List GroundAction) (n : ℕ) → Acting SameAt n (acts_of d gs)
acting d gs n = record {
  itself = itself;
  turned = turned;
  joined = joined;
  start = λ i l. starts_read d (slice_get gs i);
  over = λ i l. lasts_read d (slice_get gs i);
  end = λ i l. closes_read d (slice_get gs i);
  begin = λ i l. begun_effect d (slice_get gs i);
  finish = λ i l. finished_effect d (slice_get gs i);
  apart = λ i j below within e x. apart_at gs i j below e (slice_get gs i) (slice_get gs j) refl refl x;
}
