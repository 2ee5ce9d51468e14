-- The fact of a feature that is a table, and that of one that is none.
use Rattle.std.proofs.Common.{◌≡◌, ℕ, Bool, Some, None, Option, Result, refl, ap, sym, subst, arith}
use Rattle.wire.specs.declared.order.ByteOrder.{ByteOrder}
use Rattle.wire.specs.declared.refusal.Refusal.{Refusal}
use Rattle.put.specs.declared.writer.Writer.{Writer}
use Rattle.put_facts.specs.Writes.{Bytes, Writes}
use Rattle.facts.specs.declared.carried.Carried.{Carried}
use Rattle.facts.specs.declared.carried.Carried.TheVariants.{BuildId, Hostname, OsRelease, Version, Arch, NrCpus, CpuDesc, CpuId, TotalMem, CmdLine, PmuMappings, Stat, ClockId, SimpleperfFile, SimpleperfMetaInfo}
use Rattle.facts.specs.declared.carried.Tabled.{Tabled}
use Rattle.facts.specs.Head.{Sections, answer}
use Rattle.facts.specs.Tables.{tabled_as, feature_of}

no_table : {P : Type 0} (t : Tabled) → ◌≡◌ {A = Option Tabled} (Some t) None → P
no_table t h = let z : ◌≡◌ {A = ℕ} 0 1 = cc in absurd (omega arith)

not_some : {P : Type 0} (t : Tabled) → ◌≡◌ {A = Option Tabled} None (Some t) → P
not_some t h = let z : ◌≡◌ {A = ℕ} 0 1 = cc in absurd (omega arith)

some_same : (a b : Tabled) → ◌≡◌ {A = Option Tabled} (Some a) (Some b) → a ≡ b
some_same a b h = cc

-- a feature is that of its table
pub same_feature : (f : Carried) (t : Tabled) → tabled_as f ≡ Some t → feature_of t ≡ f
same_feature BuildId t h = ap feature_of (sym (some_same _ t h))
same_feature PmuMappings t h = ap feature_of (sym (some_same _ t h))
same_feature SimpleperfMetaInfo t h = ap feature_of (sym (some_same _ t h))
same_feature Hostname t h = not_some t h
same_feature OsRelease t h = not_some t h
same_feature Version t h = not_some t h
same_feature Arch t h = not_some t h
same_feature NrCpus t h = not_some t h
same_feature CpuDesc t h = not_some t h
same_feature CpuId t h = not_some t h
same_feature TotalMem t h = not_some t h
same_feature CmdLine t h = not_some t h
same_feature Stat t h = not_some t h
same_feature ClockId t h = not_some t h
same_feature SimpleperfFile t h = not_some t h

-- what is no table needs no rows
pub rowless : (f : Carried) → tabled_as f ≡ None → (n : ℕ) (o : ByteOrder) (at : Sections) → answer 0 o at f ≡ answer n o at f
rowless BuildId h n o at = no_table _ h
rowless PmuMappings h n o at = no_table _ h
rowless SimpleperfMetaInfo h n o at = no_table _ h
rowless Hostname h n o at = refl
rowless OsRelease h n o at = refl
rowless Version h n o at = refl
rowless Arch h n o at = refl
rowless NrCpus h n o at = refl
rowless CpuDesc h n o at = refl
rowless CpuId h n o at = refl
rowless TotalMem h n o at = refl
rowless CmdLine h n o at = refl
rowless Stat h n o at = refl
rowless ClockId h n o at = refl
rowless SimpleperfFile h n o at = refl

-- what was written of an answer was of one equal to it
pub written : {b d : Bytes} {u v : Writer} {r : Result Bool Refusal} → b ≡ d → Writes b u r v → Writes d u r v
written {b} {d} {u} {v} {r} e w = subst (λ x. Writes x u r v) e w
