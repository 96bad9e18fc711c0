-- Bytes that a sink took, one piece after another.
use Rattle.std.proofs.Common.{ℕ, ◌+◌, List, ◌++◌, Option, take, length, sym, subst}
use Rattle.std.proofs.Math.Seq.{take-append-add, take-length}
use Rattle.std.proofs.KnownBytes.{Appends-nil, Appends-trans}
use Rattle.std.specs.Io.KnownBytes.{Appends}
use Rattle.ps_text.specs.Outside.{AppendsPrefix}

-- one piece, and then a prefix of another
pub AppendsPrefix-append : (a b c : Option (List ℕ)) (xs ys : List ℕ) → Appends a b xs → AppendsPrefix b c ys → AppendsPrefix a c (xs ++ ys)
AppendsPrefix-append a b c xs ys p q =
    (length xs + q.0, subst (Appends a c) (sym (take-append-add xs ys q.0)) (Appends-trans a b c xs (take q.0 ys) p q.1))

-- nothing is a prefix of anything
pub AppendsPrefix-nil : (t : Option (List ℕ)) (xs : List ℕ) → AppendsPrefix t t xs
AppendsPrefix-nil t xs = (0, Appends-nil t)

-- all of a text is a prefix of it
pub AppendsPrefix-all : (a b : Option (List ℕ)) (xs : List ℕ) → Appends a b xs → AppendsPrefix a b xs
AppendsPrefix-all a b xs h = (length xs, subst (Appends a b) (sym (take-length xs)) h)
