-- What a sound input's members have: jobs that end, and observers that are found by their names.
use Rattle.std.proofs.Common.{◌≡◌, ℕ, zero, suc, min, ◌-◌, ◌<◌, ◌≤◌, All, true, false, Some, List, [], ◌∷◌, filter_map, find, length, slice_get, refl, arith, ap, sym, ◌∙◌, subst, inl, inr}
use Rattle.std.specs.List.{AllPairs}
use Rattle.std.proofs.lemmas.Bool.{cond-false, cond-true, false_from_ne_true}
use Rattle.std.proofs.lemmas.List.Elements.{All-head, All-tail}
use Rattle.ps_world.specs.Names.{same_name}
use Rattle.ps_world.proofs.SameTexts.{name_itself}
use Rattle.ps_action.proofs.Facts.{same_name-is}
use Rattle.ps_machine.specs.declared.inputs.Input.{Input}
use Rattle.ps_machine.specs.declared.members.Unit.{Unit as Task}
use Rattle.ps_machine.specs.declared.members.Member.{Member}
use Rattle.ps_machine.specs.declared.members.Member.TheVariants as member
use Rattle.ps_machine.specs.declared.members.Performer.{Performer}
use Rattle.ps_machine.specs.declared.members.Observer.{Observer}
use Rattle.ps_rules.specs.Members.{as_observer, job, observer_of, observers, performers}
use Rattle.ps_rules.specs.Sound.{ends_once, IsSound, IsSoundJob, IsSoundPerformer, member_name}
use Rattle.ps_progress_laws.proofs.Lists.{In}
use Rattle.ps_progress_laws.proofs.Picking.{clash}

-- what holds of all holds of one
pub all-one : {A : Type 0} (P : A → Type 0) (xs : List A) → All P xs → (x : A) → In x xs → P x
all-one P [] h x m = absurd m
all-one P (y ∷ ys) h x (inl e) = subst P (sym e) (All-head P y ys h)
all-one P (y ∷ ys) h x (inr m) = all-one P ys (All-tail P y ys h) x m

-- ---- jobs

some-job : (P : List Task → Type 0) (jobs : List (List Task)) → All P jobs → (n : ℕ) → n < length jobs → (us : List Task) × (slice_get jobs n ≡ Some us) × P us
some-job P [] h n l = absurd (omega (arith, l))
some-job P (us ∷ jobs) h zero l = (us, refl, All-head P us jobs h)
some-job P (us ∷ jobs) h (suc n) l = some-job P jobs (All-tail P us jobs h) n (omega (arith, l))

-- a performer has a job at each of its beginnings, and its last unit and no other ends it
pub job_ends : (i : Input) → IsSound i → (p : Performer) → In p (performers i) → (n : ℕ) → (us : List Task) × (job p n ≡ Some us) × (ends_once us ≡ true)
job_ends i sound p m n =
    let h = all-one (IsSoundPerformer i.domain) (performers i) sound.each_performer p m in
    let some : 1 ≤ length p.jobs = h.some_job in
    let w = some-job IsSoundJob p.jobs h.jobs (min n (length p.jobs) - 1) (omega (arith, some)) in
    (w.0, w.1, w.2.ended)

-- ---- observers

pub differ-head : (m : Member) (ms : List Member) → AllPairs (λ a b. same_name (member_name a) (member_name b) ≡ false) (m ∷ ms) → All (λ b. same_name (member_name m) (member_name b) ≡ false) ms
differ-head m ms h k d below = h 0 (suc k) d (omega arith) (omega (arith, below))

pub differ-tail : (m : Member) (ms : List Member) → AllPairs (λ a b. same_name (member_name a) (member_name b) ≡ false) (m ∷ ms) → AllPairs (λ a b. same_name (member_name a) (member_name b) ≡ false) ms
differ-tail m ms h j k d less below = h (suc j) (suc k) d (omega (arith, less)) (omega (arith, below))

is-member : (ms : List Member) (o : Observer) → In o (filter_map as_observer ms) → In (member.Observer o) ms
is-member [] o h = absurd h
is-member (member.Performer p ∷ ms) o h = inr (is-member ms o h)
is-member (member.Observer x ∷ ms) o (inl e) = inl (ap member.Observer e)
is-member (member.Observer x ∷ ms) o (inr h) = inr (is-member ms o h)

found-first : (ms : List Member) → AllPairs (λ a b. same_name (member_name a) (member_name b) ≡ false) ms → (o : Observer) → In o (filter_map as_observer ms)
    → find (λ x. same_name o.name x.name) (filter_map as_observer ms) ≡ Some o
found-first [] differ o h = absurd h
found-first (member.Performer p ∷ ms) differ o h = found-first ms (differ-tail (member.Performer p) ms differ) o h
found-first (member.Observer x ∷ ms) differ o (inl e) =
    cond-true (same_name o.name x.name) (Some x) (find (λ x. same_name o.name x.name) (filter_map as_observer ms)) (ap (λ y. same_name o.name y.name) (sym e) ∙ name_itself o.name)
    ∙ ap Some (sym e)
found-first (member.Observer x ∷ ms) differ o (inr h) =
    let other : same_name x.name o.name ≡ false =
    all-one (λ b. same_name x.name (member_name b) ≡ false) ms (differ-head (member.Observer x) ms differ) (member.Observer o) (is-member ms o h) in
    let not_first : same_name o.name x.name ≡ false =
    false_from_ne_true (same_name o.name x.name) (λ t.
    clash (same_name x.name o.name) (ap (λ n. same_name x.name n) (same_name-is o.name x.name t) ∙ name_itself x.name) other) in
    cond-false (same_name o.name x.name) (Some x) (find (λ x. same_name o.name x.name) (filter_map as_observer ms)) not_first
    ∙ found-first ms (differ-tail (member.Observer x) ms differ) o h

-- an observer is the one of its name
pub observer_found : (i : Input) → IsSound i → (o : Observer) → In o (observers i) → observer_of i o.name ≡ Some o
observer_found i sound o h = found-first i.members sound.names_differ o h
