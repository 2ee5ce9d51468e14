-- Why a line is turned down.
use Rattle.std.proofs.Common.{◌≡◌, ℕ, Bool, cond, List, get_or, Option, Some, None, MatchOption, Ok, Err, Result, IsErr, Bor, ◌≢◌, subst, sym, ap, ◌∙◌, arith}
use Rattle.std.specs.Prelude.{codes}
use Rattle.std.specs.Option.{IsSomeAnd, option_transpose}
use Rattle.desk.specs.declared.request.Opening.{Opening}
use Rattle.desk.specs.declared.request.Request.{Request}
use Rattle.desk.specs.declared.request.Request.TheVariants.{Open, File, Release, Count, Show}
use Rattle.desk.specs.Requests.{Reads, IsNumber, IsOptional, IsOpening, IsRequest, first_of, others_of}

-- what was answered by an error was turned down
pub turned_down : {X E : Type 0} (P : X → Type 0) (r : Result X E) → IsErr r → ((x : X) → ¬ (P x)) → Reads P r
turned_down P (Ok x) e n = absurd (omega (arith, ap {B = ℕ} (λ (b : Bool). cond b 1 0) e))
turned_down P (Err e) _ n = n

-- a line with the name of one request is no other: the names begin with different letters
one_letter : (line a b : List ℕ) → first_of line ≡ a → first_of line ≡ b → get_or a 0 0 ≡ get_or b 0 0
one_letter line a b e f = ap (λ (w : List ℕ). get_or w 0 0) (sym e ∙ f)

pub only_open : (line : List ℕ) → first_of line ≡ codes "open" → ((o : Opening) → ¬ (IsOpening (others_of line) o)) → (r : Request) → ¬ (IsRequest line r)
only_open line e n (Open o) w = n o w.1
only_open line e n (File f) w = absurd (omega (arith, one_letter line _ _ e w.0))
only_open line e n (Release g) w = absurd (omega (arith, one_letter line _ _ e w.0))
only_open line e n (Count g) w = absurd (omega (arith, one_letter line _ _ e w.0))
only_open line e n (Show g room) w = absurd (omega (arith, one_letter line _ _ e w.0))

pub only_show : (line : List ℕ) → first_of line ≡ codes "show" → ((g : ℕ) (room : Option ℕ) → IsNumber (first_of (others_of line)) g → ¬ (IsOptional (others_of line) room)) → (r : Request) → ¬ (IsRequest line r)
only_show line e n (Open o) w = absurd (omega (arith, one_letter line _ _ e w.0))
only_show line e n (File f) w = absurd (omega (arith, one_letter line _ _ e w.0))
only_show line e n (Release g) w = absurd (omega (arith, one_letter line _ _ e w.0))
only_show line e n (Count g) w = absurd (omega (arith, one_letter line _ _ e w.0))
only_show line e n (Show g room) w = n g room w.1 w.2

-- what stands behind the first of some words is turned down
pub behind : {Y E : Type 0} (words : List ℕ) (P : List ℕ → Y → Type 0) (L : Bor (List ℕ) → Result Y E → Type 0) (o : Option (Bor (List ℕ))) (m : Option (Result Y E)) (t : Result (Option Y) E) (e : E) → MatchOption o (m ≡ None) (λ x. IsSomeAnd m (L x)) → ((x : Bor (List ℕ)) (r : Result Y E) → L x r → Reads (P x.now) r) → MatchOption o (first_of words ≡ words) (λ w. (w.now ≡ others_of words) × (first_of words ≢ words)) → t ≡ option_transpose m → t ≡ Err e → (z : Option Y) → MatchOption z (first_of words ≡ words) (P (others_of words)) → ⊥
behind words P L None m t e a l f b d z w = let y : ◌≡◌ {A = ℕ} 0 1 = cc in omega arith
behind words P L (Some x) None t e a l f b d z w = a
behind words P L (Some x) (Some (Ok y)) t e a l f b d z w = let v : ◌≡◌ {A = ℕ} 0 1 = cc in omega arith
behind words P L (Some x) (Some (Err y)) t e a l f b d None w = f.1 w
behind words P L (Some x) (Some (Err y)) t e a l f b d (Some z) w = l x (Err y) a z (subst (λ (k : List ℕ). P k z) (sym f.0) w)
