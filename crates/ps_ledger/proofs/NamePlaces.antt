-- Values at the places of names.
use Rattle.std.proofs.Common.{◌≡◌, ℕ, suc, ◌+◌, ◌<◌, ◌==◌, nat_lt, Bool, true, false, None, if◌then◌else◌, List, [], ◌∷◌, ◌++◌, length, slice_index_or, refl, ap, sym, arith, ◌∙◌}
use Rattle.std.proofs.lemmas.Bool.Decides.{nat_tests}
use Rattle.std.proofs.lemmas.Bool.{true≢false}
use Rattle.std.proofs.lemmas.List.{length-set}
use Rattle.std.specs.Option.{unwrap_or}
use Rattle.ps_world.specs.Names.{same_name}
use Rattle.ps_world.specs.declared.names.Name.{Name}
use Rattle.ps_action.proofs.Facts.{same_name-is}
use Rattle.ps_machine.specs.declared.journal.Entry.{Entry}
use Rattle.ps_rules.specs.Reading.{only_if}
use Rattle.ps_rules.specs.Runs.{opens}
use Rattle.ps_rules.specs.Auctions.{begins, begins_by, is_engaged, says_engaged}
use Rattle.ps_rules.specs.Members.{is_observed, observed}
use Rattle.ps_rules.proofs.Pushed.{read-push}
use Rattle.ps_ledger.specs.declared.members.Observers.{Observers}
use Rattle.ps_ledger.specs.declared.members.Performers.{Performers}
use Rattle.ps_ledger.specs.Members.{at_name, has_name, place_in, TellsObservers, TellsPerformers, with_named, with_rise}
use Rattle.ps_ledger.proofs.Lists.{at-set, put-set}

suc_same : (a b : ℕ) → (suc a == suc b) ≡ (a == b)
suc_same a b = grind (arith, nat_tests)

place-step : (n p q : Name) (a b : ℕ) (s t : Bool) → same_name p n ≡ s → same_name q n ≡ t → (t ≡ false → (a == b) ≡ same_name p q)
    → ((if s then 0 else suc a) == (if t then 0 else suc b)) ≡ same_name p q
place-step n p q a b true true e f more = grind (arith, nat_tests, e, f)
place-step n p q a b true false e f more = grind (arith, nat_tests, e, f)
place-step n p q a b false true e f more = grind (arith, nat_tests, e, f)
place-step n p q a b false false e f more = suc_same a b ∙ more refl

tail-lt : (n : Name) (ns : List Name) (b : ℕ) (t : Bool) → t ≡ false → nat_lt (if t then 0 else suc b) (length (n ∷ ns)) ≡ true → nat_lt b (length ns) ≡ true
tail-lt n ns b true e h = absurd (true≢false e)
tail-lt n ns b false e h = grind (arith, nat_tests, h)

-- two names have one place exactly where they are the same, where one of them is there
pub place-same : (names : List Name) (p q : Name) → nat_lt (place_in names q) (length names) ≡ true → (place_in names p == place_in names q) ≡ same_name p q
place-same [] p q h = absurd (true≢false (sym h))
place-same (n ∷ ns) p q h =
    place-step n p q (place_in ns p) (place_in ns q) (same_name p n) (same_name q n) refl refl
    (λ f. place-same ns p q (tail-lt n ns (place_in ns q) (same_name q n) f h))

only-if : (s b o : Bool) → unwrap_or (only_if s b) o ≡ (if s then b else o)
only-if true b o = refl
only-if false b o = refl

-- how many values there are stays
pub named-many : {A : Type 0} (names : List Name) (old new : List A) (q : Name) (x : A) → has_name names old q ≡ true → new ≡ with_named names old q x → length new ≡ length old
named-many names old new q x there made = ap length (made ∙ put-set old (place_in names q) x there) ∙ length-set old (place_in names q) x

-- the value of a name, where that of a name that is there is another one
pub named-at : {A : Type 0} (names : List Name) (xs : List A) (q p : Name) (x d : A) → nat_lt (place_in names q) (length names) ≡ true → nat_lt (place_in names q) (length xs) ≡ true
    → at_name names (with_named names xs q x) p d ≡ (if same_name p q then x else at_name names xs p d)
named-at names xs q p x d named there =
    let k : ℕ = place_in names q in
    let lt : k < length xs = grind (arith, nat_tests, there) in
    ap (λ ys. slice_index_or ys (place_in names p) d) (put-set xs k x there)
    ∙ at-set xs k (place_in names p) x d (place_in names p == k) refl lt
    ∙ ap (λ s. if s then x else slice_index_or xs (place_in names p) d) (place-same names p q named)

pub named-put : {A : Type 0} (names : List Name) (old new : List A) (q p : Name) (x d : A) → length old ≡ length names → has_name names old q ≡ true
    → new ≡ with_named names old q x → at_name names new p d ≡ (if same_name p q then x else at_name names old p d)
named-put names old new q p x d many there made =
    ap (λ xs. at_name names xs p d) made ∙ named-at names old q p x d (ap (nat_lt (place_in names q)) (sym many) ∙ there) there

risen : (names : List Name) (xs : List ℕ) (p q : Name) (t : Bool) → same_name p q ≡ t
    → (if t then at_name names xs p 0 + 1 else at_name names xs p 0) ≡ (if t then at_name names xs q 0 + 1 else at_name names xs p 0)
risen names xs p q true e = ap (λ n. at_name names xs n 0 + 1) (same_name-is p q e)
risen names xs p q false e = refl

-- the number of a name, where that of a name that is there rises by one
pub named-rise : (names : List Name) (old new : List ℕ) (q p : Name) → length old ≡ length names → has_name names old q ≡ true → new ≡ with_rise names old q
    → (if same_name p q then at_name names old p 0 + 1 else at_name names old p 0) ≡ at_name names new p 0
named-rise names old new q p many there made =
    risen names old p q (same_name p q) refl ∙ sym (named-put names old new q p (at_name names old q 0 + 1) 0 many there made)

-- the same values at the places of the same names
same-at : {A : Type 0} (names more : List Name) (xs ys : List A) (p : Name) (d : A) → more ≡ names → ys ≡ xs → at_name names xs p d ≡ at_name more ys p d
same-at names more xs ys p d e f = ap (λ ns. at_name ns xs p d) (sym e) ∙ ap (λ zs. at_name more zs p d) (sym f)

-- one that becomes engaged, or is so no longer
pub engaged-now : (es : List Entry) (e : Entry) (old new : Performers) (q : Name) (b : Bool) → TellsPerformers es old
    → ((p : Name) → says_engaged p e.what ≡ only_if (same_name p q) b) → ((p : Name) → begins_by p e.what ≡ false)
    → new.names.items ≡ old.names.items → new.engaged.items ≡ with_named old.names.items old.engaged.items q b → new.begun.items ≡ old.begun.items
    → has_name old.names.items old.engaged.items q ≡ true → TellsPerformers (es ++ e ∷ []) new
engaged-now es e old new q b t says none names engaged begun there = record {
  many = named-many old.names.items old.engaged.items new.engaged.items q b there engaged ∙ t.many ∙ ap length (sym names);
  engages = λ p.
      read-push (λ a f. unwrap_or (says_engaged p f) a) false es e
      ∙ ap (λ o. unwrap_or o (is_engaged p es)) (says p)
      ∙ only-if (same_name p q) b (is_engaged p es)
      ∙ ap (λ o. if same_name p q then b else o) (t.engages p)
      ∙ sym (named-put old.names.items old.engaged.items new.engaged.items q p b false t.many there engaged)
      ∙ ap (λ ns. at_name ns new.engaged.items p false) (sym names);
  as_many = ap length begun ∙ t.as_many ∙ ap length (sym names);
  counts = λ p.
      read-push (λ n f. if begins_by p f then n + 1 else n) 0 es e
      ∙ ap (λ s. if s then begins p es + 1 else begins p es) (none p)
      ∙ t.counts p
      ∙ same-at old.names.items new.names.items old.begun.items new.begun.items p 0 names begun;
}

-- one that begins
pub begun-now : (es : List Entry) (e : Entry) (old new : Performers) (q : Name) → TellsPerformers es old
    → ((p : Name) → says_engaged p e.what ≡ None) → ((p : Name) → begins_by p e.what ≡ same_name p q)
    → new.names.items ≡ old.names.items → new.begun.items ≡ with_rise old.names.items old.begun.items q → new.engaged.items ≡ old.engaged.items
    → has_name old.names.items old.begun.items q ≡ true → TellsPerformers (es ++ e ∷ []) new
begun-now es e old new q t none says names begun engaged there = record {
  many = ap length engaged ∙ t.many ∙ ap length (sym names);
  engages = λ p.
      read-push (λ a f. unwrap_or (says_engaged p f) a) false es e
      ∙ ap (λ o. unwrap_or o (is_engaged p es)) (none p)
      ∙ t.engages p
      ∙ same-at old.names.items new.names.items old.engaged.items new.engaged.items p false names engaged;
  as_many = named-many old.names.items old.begun.items new.begun.items q (at_name old.names.items old.begun.items q 0 + 1) there begun ∙ t.as_many ∙ ap length (sym names);
  counts = λ p.
      read-push (λ n f. if begins_by p f then n + 1 else n) 0 es e
      ∙ ap (λ s. if s then begins p es + 1 else begins p es) (says p)
      ∙ ap (λ n. if same_name p q then n + 1 else n) (t.counts p)
      ∙ named-rise old.names.items old.begun.items new.begun.items q p t.as_many there begun
      ∙ ap (λ ns. at_name ns new.begun.items p 0) (sym names);
}

-- an observer that does a unit more
pub seen-now : (es : List Entry) (e : Entry) (old new : Observers) (q : Name) → TellsObservers es old
    → opens e.what ≡ false → ((o : Name) → is_observed o e.what ≡ same_name o q)
    → new.names.items ≡ old.names.items → new.seen.items ≡ with_rise old.names.items old.seen.items q
    → has_name old.names.items old.seen.items q ≡ true → TellsObservers (es ++ e ∷ []) new
seen-now es e old new q t none says names seen there = record {
  many = named-many old.names.items old.seen.items new.seen.items q (at_name old.names.items old.seen.items q 0 + 1) there seen ∙ t.many ∙ ap length (sym names);
  counts = λ o.
      read-push (λ n f. if opens f then 0 else (if is_observed o f then n + 1 else n)) 0 es e
      ∙ ap (λ b. if b then 0 else (if is_observed o e.what then observed o es + 1 else observed o es)) none
      ∙ ap (λ s. if s then observed o es + 1 else observed o es) (says o)
      ∙ ap (λ n. if same_name o q then n + 1 else n) (t.counts o)
      ∙ named-rise old.names.items old.seen.items new.seen.items q o t.many there seen
      ∙ ap (λ ns. at_name ns new.seen.items o 0) (sym names);
}
