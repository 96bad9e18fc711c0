-- Reading one part of the input after another.
use Rattle.std.proofs.Common.{◌≡◌, ℕ, zero, suc, ◌+◌, ◌≤◌, inl, inr, nat_lt, false, Result, Ok, Err, Some, List, [], ◌∷◌, ◌++◌, length, refl, sym, ap, ◌∙◌, subst, arith}
use Rattle.std.specs.List.{slice_get}
use Rattle.std.proofs.lemmas.List.{length-append}
use Rattle.std.proofs.lemmas.Bool.Decides.{nat_tests}
use Rattle.ps_world.specs.declared.failures.Failure.{Failure}
use Rattle.ps_world.specs.declared.failures.Failure.TheVariants.{Refused, OutOfMemory}
use Rattle.std.specs.Global.{Vec}
use Rattle.ps_world.proofs.Elements.{get_first}
use Rattle.ps_text.specs.Outside.{FilesView, MayHold, Reads, Told, after, next}
use Rattle.ps_text.specs.Outside.Told.{untold, absent, text}
use Rattle.ps_inputs.specs.Reading.{FileFault, MayBe, MayFail, MayGive, MayReadNext, Reading, Texts, after_files, and_then, file_gives, longest_file, most_lines}
use Rattle.ps_inputs.specs.Reading.FileFault.{too_long, too_many}
use Rattle.ps_inputs.specs.Reading.Reading.{gives, faulty, unknown}
use Rattle.ps_inputs.specs.Faults.{IsEnded, ReadsPart, failed_after}
use Rattle.ps_inputs.specs.Parts.{ReadsText}
use Rattle.ps_inputs.specs.declared.faults.Fault.{Fault}
use Rattle.ps_inputs.specs.declared.faults.Fault.TheVariants.{Usage, NoDomain, NoMember, Crowd, Twice, TooLong, Lines, Unread}

-- ---- counts and lists

pub after-sum : (j k n : ℕ) → after k (after j n) ≡ after (j + k) n
after-sum j zero n = let e : j ≡ j + 0 = omega arith in ap (λ (m : ℕ). after m n) e
after-sum j (suc k) n =
    let e : suc (j + k) ≡ j + suc k = omega arith in
    ap next (after-sum j k n) ∙ ap (λ (m : ℕ). after m n) e

-- and so is one of the second, after those of the first
get_second : {A : Type 0} (xs ys : List A) (n : ℕ) (x : A) → slice_get ys n ≡ Some x → slice_get (xs ++ ys) (length xs + n) ≡ Some x
get_second [] ys n x e = let z : 0 + n ≡ n = omega arith in subst (λ (m : ℕ). slice_get ys m ≡ Some x) (sym z) e
get_second (y ∷ xs) ys n x e =
    let z : suc (length xs) + n ≡ suc (length xs + n) = omega arith in
    subst (λ (m : ℕ). slice_get (y ∷ (xs ++ ys)) m ≡ Some x) (sym z) (get_second xs ys n x e)

-- ---- what is claimed of one part, and of what follows it

-- the first part is at fault
fail_first : {A B : Type 0} (x : Reading A) (y : A → Reading B) (fault : FileFault) → MayFail x fault → MayFail (and_then x y) fault
fail_first (gives files v) y fault h = absurd h
fail_first (faulty files it) y fault h = h
fail_first (unknown files) y fault h = tt

-- a file that was read before
next_before : {B : Type 0} (files : List (List ℕ)) (z : Reading B) (n : ℕ) (file : List ℕ) → slice_get files n ≡ Some file → MayReadNext (after_files files z) n file
next_before files (gives more w) n file h = get_first files more n file h
next_before files (faulty more it) n file h = get_first files more n file h
next_before files (unknown more) n file h = inl (get_first files more n file h)

-- the next file of the first part is the next of both
next_first : {A B : Type 0} (x : Reading A) (y : A → Reading B) (n : ℕ) (file : List ℕ) → MayReadNext x n file → MayReadNext (and_then x y) n file
next_first (gives files v) y n file h = next_before files (y v) n file h
next_first (faulty files it) y n file h = h
next_first (unknown files) y n file h = h

-- the files before are counted too
be_after : {B : Type 0} (files : List (List ℕ)) (z : Reading B) (j k : ℕ) (b : B) → length files ≡ j → MayBe z k b → MayBe (after_files files z) (j + k) b
be_after files (gives more w) j k b h p = (omega (arith, length-append files more, h, p.0), p.1)
be_after files (faulty more it) j k b h p = absurd p
be_after files (unknown more) j k b h p = omega (arith, length-append files more, h, p)

-- what holds of what a part gives
pub give_be : {A : Type 0} (x : Reading A) (j : ℕ) (a : A) (claim : A → Type 0) → MayBe x j a → claim a → MayGive x claim
give_be (gives files v) j a claim h p = subst claim (sym h.1) p
give_be (faulty files it) j a claim h p = absurd h
give_be (unknown files) j a claim h p = tt

-- the second part gives this
be_second : {A B : Type 0} (x : Reading A) (y : A → Reading B) (j k : ℕ) (a : A) (b : B) → MayBe x j a → MayBe (y a) k b → MayBe (and_then x y) (j + k) b
be_second (gives files v) y j k a b h g = be_after files (y v) j k b h.0 (subst (λ w. MayBe (y w) k b) (sym h.1) g)
be_second (faulty files it) y j k a b h g = absurd h
be_second (unknown files) y j k a b h g = omega (arith, h)

-- files before are no fault
fail_after : {B : Type 0} (files : List (List ℕ)) (z : Reading B) (fault : FileFault) → MayFail z fault → MayFail (after_files files z) fault
fail_after files (gives more w) fault p = absurd p
fail_after files (faulty more it) fault p = p
fail_after files (unknown more) fault p = tt

-- the second part is at fault
fail_second : {A B : Type 0} (x : Reading A) (y : A → Reading B) (j : ℕ) (a : A) (fault : FileFault) → MayBe x j a → MayFail (y a) fault → MayFail (and_then x y) fault
fail_second (gives files v) y j a fault h g = fail_after files (y v) fault (subst (λ w. MayFail (y w) fault) (sym h.1) g)
fail_second (faulty files it) y j a fault h g = absurd h
fail_second (unknown files) y j a fault h g = tt

-- a file that is read after these
get_after : (files more : List (List ℕ)) (j n : ℕ) (file : List ℕ) → length files ≡ j → slice_get more n ≡ Some file → slice_get (files ++ more) (j + n) ≡ Some file
get_after files more j n file h e = subst (λ (m : ℕ). slice_get (files ++ more) (m + n) ≡ Some file) h (get_second files more n file e)

next_after : {B : Type 0} (files : List (List ℕ)) (z : Reading B) (j n : ℕ) (file : List ℕ) → length files ≡ j → MayReadNext z n file → MayReadNext (after_files files z) (j + n) file
next_after files (gives more w) j n file h p = get_after files more j n file h p
next_after files (faulty more it) j n file h p = get_after files more j n file h p
next_after files (unknown more) j n file h (inl p) = inl (get_after files more j n file h p)
next_after files (unknown more) j n file h (inr p) = inr (omega (arith, length-append files more, h, p))

-- the next file of the second part is the next of both
next_second : {A B : Type 0} (x : Reading A) (y : A → Reading B) (j n : ℕ) (a : A) (file : List ℕ) → MayBe x j a → MayReadNext (y a) n file → MayReadNext (and_then x y) (j + n) file
next_second (gives files v) y j n a file h g = next_after files (y v) j n file h.0 (subst (λ w. MayReadNext (y w) n file) (sym h.1) g)
next_second (faulty files it) y j n a file h g = absurd h
next_second (unknown files) y j n a file h g = inr (omega (arith, h))

-- ---- why reading was ended

-- in the first part
pub ended_first : {A B : Type 0} (x : Reading A) (y : A → Reading B) (old new : FilesView) (why : Failure Fault) → IsEnded x old new why → IsEnded (and_then x y) old new why
ended_first x y old new (Refused Usage) h = h
ended_first x y old new (Refused (NoDomain cause)) h = h
ended_first x y old new (Refused (NoMember file cause)) h = h
ended_first x y old new (Refused Crowd) h = h
ended_first x y old new (Refused (Twice name)) h = h
ended_first x y old new (Refused (TooLong file)) h = record { length = h.length; long = h.long; told = fail_first x y (too_long file.items h.length) h.told }
ended_first x y old new (Refused Lines) h = fail_first x y (too_many (most_lines + 1)) h
ended_first x y old new (Refused (Unread file)) h = record { before = h.before; counted = h.counted; named = next_first x y h.before file.items h.named }
ended_first x y old new OutOfMemory h = tt

-- in the second part
ended_second : {A B : Type 0} (x : Reading A) (y : A → Reading B) (j : ℕ) (a : A) (old middle new : FilesView) (why : Failure Fault) → MayBe x j a → middle.reads ≡ after j old.reads → IsEnded (y a) middle new why → IsEnded (and_then x y) old new why
ended_second x y j a old middle new (Refused Usage) h c g = g
ended_second x y j a old middle new (Refused (NoDomain cause)) h c g = g
ended_second x y j a old middle new (Refused (NoMember file cause)) h c g = g
ended_second x y j a old middle new (Refused Crowd) h c g = g
ended_second x y j a old middle new (Refused (Twice name)) h c g = g
ended_second x y j a old middle new (Refused (TooLong file)) h c g = record { length = g.length; long = g.long; told = fail_second x y j a (too_long file.items g.length) h g.told }
ended_second x y j a old middle new (Refused Lines) h c g = fail_second x y j a (too_many (most_lines + 1)) h g
ended_second x y j a old middle new (Refused (Unread file)) h c g =
    let e : j + suc g.before ≡ suc (j + g.before) = omega arith in
    record {
      before = j + g.before;
      counted = g.counted ∙ ap (after (suc g.before)) c ∙ after-sum j (suc g.before) old.reads ∙ ap (λ (m : ℕ). after m old.reads) e;
      named = next_second x y j g.before a file.items h g.named;
    }
ended_second x y j a old middle new OutOfMemory h c g = tt

-- ---- one part after another

-- a failure is counted alike, whatever was to be read
failed-alike : (B D : Type 0) (why : Failure Fault) (m n : ℕ) → n ≡ failed_after {B = B} (Err why) m → n ≡ failed_after {B = D} (Err why) m
failed-alike B D (Refused Usage) m n e = e
failed-alike B D (Refused (NoDomain cause)) m n e = e
failed-alike B D (Refused (NoMember file cause)) m n e = e
failed-alike B D (Refused Crowd) m n e = e
failed-alike B D (Refused (Twice name)) m n e = e
failed-alike B D (Refused (TooLong file)) m n e = e
failed-alike B D (Refused Lines) m n e = e
failed-alike B D (Refused (Unread file)) m n e = e
failed-alike B D OutOfMemory m n e = e

-- the first part is read, and then the second, of what the first gave
then_same : {A B C D : Type 0} {P : A → B → Type 0} {Q : C → D → Type 0} (x : Reading A) (y : A → Reading C) (old middle new : FilesView) (b : B) (r : Result D (Failure Fault)) (first : ReadsPart x old middle P (Ok b)) → ReadsPart (y first.given.1) middle new Q r → ReadsPart (and_then x y) old new Q r
then_same {D = D} x y old middle new b (Ok d) first p =
    let j = first.given.0 in
    let k = p.given.0 in
    record {
      given = (j + k, p.given.1, be_second x y j k first.given.1 p.given.1 first.given.2 p.given.2, p.given.3 ∙ ap (after k) first.given.3 ∙ after-sum j k old.reads, p.given.4);
      ended = tt;
      failed = p.failed ∙ first.failed;
      same = p.same ∙ first.same;
    }
then_same {D = D} x y old middle new b (Err why) first p =
    record {
      given = tt;
      ended = ended_second x y first.given.0 first.given.1 old middle new why first.given.2 first.given.3 p.ended;
      failed = p.failed ∙ ap (failed_after {B = D} (Err why)) first.failed;
      same = p.same ∙ first.same;
    }

pub then_read : {A B C D : Type 0} {P : A → B → Type 0} {Q : C → D → Type 0} (x : Reading A) (y : Texts → A → Reading C) (old middle new : FilesView) (b : B) (r : Result D (Failure Fault)) → ReadsPart x old middle P (Ok b) → ((a : A) → P a b → ReadsPart (y middle.told a) middle new Q r) → ReadsPart (and_then x (y old.told)) old new Q r
then_read {Q = Q} x y old middle new b r first second =
    then_same x (y old.told) old middle new b r first
    (subst (λ (t : Texts). ReadsPart (y t first.given.1) middle new Q r) first.same (second first.given.1 first.given.4))

-- the first part isn't read
pub then_ended : {A B C D : Type 0} {P : A → B → Type 0} {Q : C → D → Type 0} (x : Reading A) (y : A → Reading C) (old new : FilesView) (why : Failure Fault) → ReadsPart x old new P (Err why) → ReadsPart (and_then x y) old new Q (Err why)
then_ended {B = B} {D = D} x y old new why h =
    record { given = tt; ended = ended_first x y old new why h.ended; failed = failed-alike B D why old.failed new.failed h.failed; same = h.same }

-- reading that was ended is ended alike, whatever was to be made of it
pub ended_alike : {A B D : Type 0} {P : A → B → Type 0} {Q : A → D → Type 0} (part : Reading A) (old new : FilesView) (why : Failure Fault) → ReadsPart part old new P (Err why) → ReadsPart part old new Q (Err why)
ended_alike {B = B} {D = D} part old new why h = record { given = tt; ended = h.ended; failed = failed-alike B D why old.failed new.failed h.failed; same = h.same }

-- nothing is read, and this is what it gives
pub read_nothing : {A B : Type 0} {P : A → B → Type 0} (files : FilesView) (a : A) (b : B) → P a b → ReadsPart (gives [] a) files files P (Ok b)
read_nothing files a b p = record { given = (0, a, (refl, refl), refl, p); ended = tt; failed = refl; same = refl }

-- memory runs out after some of it was read
pub out_of_memory : {A B : Type 0} {P : A → B → Type 0} (part : Reading A) (old new : FilesView) → new.failed ≡ old.failed → new.told ≡ old.told → ReadsPart part old new P (Err OutOfMemory)
out_of_memory part old new failed same = record { given = tt; ended = tt; failed = failed; same = same }

-- ---- a file

-- a text that is short enough is what its file gives, as far as that is told
text_of_file : (file t : List ℕ) (told : Told) → length t ≤ longest_file → MayHold told t → MayBe (file_gives file told) 1 t
text_of_file file t untold short h = omega arith
text_of_file file t absent short h = absurd h
text_of_file file t (text u) short h =
    let b : nat_lt longest_file (length u) ≡ false = grind (arith, nat_tests, ap length h) in
    rw b (refl, sym h)

pub text_read : (file : List ℕ) (old new : FilesView) (v : Vec ℕ) → length v.items ≤ longest_file → Reads file old new (Ok v) → ReadsText file old new (Ok v)
text_read file old new v short h = record {
  given = (1, v.items, text_of_file file v.items (old.told file) short h.holds, h.counted, refl);
  ended = tt;
  failed = h.failed;
  same = λ i n. h.same n i;
}
