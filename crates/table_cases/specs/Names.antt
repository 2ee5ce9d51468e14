-- Keys that are one or a text: the one comes first.
use Rattle.std.specs.Prelude.{◌≡◌, ℕ, cond, List, [], ◌==◌, refl}
use Rattle.std.proofs.Common.{ap, arith}
use Rattle.table.specs.Order.{Order, numbers, texts, pairs, along}
use Rattle.table.specs.Rows.{key_part}
use Rattle.table.specs.declared.row.Row.{Row}

pub data Name : Type 0 where
  one : Name
  text : List ℕ → Name

abbrev pub coded : Name → ℕ × List ℕ
coded one = (0, [])
coded (text t) = (1, t)

pub coded_one : (x y : Name) → coded x ≡ coded y → x ≡ y
coded_one one one e = refl
coded_one one (text t) e = let z : ◌≡◌ {A = ℕ} 0 1 = ap (λ p. p.0) e in absurd (omega arith)
coded_one (text s) one e = let z : ◌≡◌ {A = ℕ} 1 0 = ap (λ p. p.0) e in absurd (omega arith)
coded_one (text s) (text t) e = ap (λ p. text p.1) e

abbrev pub names : Order Name
names = along coded coded_one (pairs numbers texts)

abbrev pub name_of : List ℕ → Row → Name
name_of section row = cond (row.number == 0) one (text (key_part section row))
