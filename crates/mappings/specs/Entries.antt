-- The entries that rows stand for.
use Rattle.std.specs.Prelude.{ℕ, List}
use Rattle.mappings.specs.declared.pmu_mappings.PmuEntry.{PmuEntry}
use Rattle.mappings.specs.declared.meta_info.MetaEntry.{MetaEntry}

abbrev pub of_pmu : PmuEntry → ℕ × List ℕ
of_pmu e = (e.number, e.name.now)

abbrev pub of_meta : MetaEntry → List ℕ × List ℕ
of_meta e = (e.key.now, e.value.now)
