use Rattle.std.proofs.Common.{sym, refl, ap, ◌∙◌}
use Rattle.std.specs.List.{flat_map}
use Rattle.fixed_facts.specs.Fixed.{of_first, nr_cpus, total_mem, clock_frequency}
use Rattle.perf_data.specs.Lists.{to_come}
use Rattle.perf_data.specs.Questions.{answered}
use Rattle.perf_data.specs.Texts.{command_line}
use Rattle.simpleperf.specs.Answers.{files_of}
use Rattle.simpleperf.specs.Tables.{symbol_tables}
use Rattle.facts.specs.Facts.{texts, cpus, memory, clock, files, write}
use Rattle.put_facts.specs.Sized.{counted_file}
use Rattle.put_facts.proofs.Arms.{writes_at, one-text, text_at}
use Rattle.put_facts.proofs.Lengths.{files-counted}
use Rattle.put_facts.proofs.Telling.{tells, mark_is, writes_same}
use Rattle.put_facts.proofs.fact.put_fact.Goals as goal

pub returns-in-BuildId : goal.returns-in-BuildId
returns-in-BuildId g c = writes_at c.in-BuildId.is 0 (g.S.Store.endian c.args.store.now) (g.S.Store.map c.args.store.now).at c.put_table_fact.ensures.writes

pub returns-in-PmuMappings : goal.returns-in-PmuMappings
returns-in-PmuMappings g c = writes_at c.in-PmuMappings.is 0 (g.S.Store.endian c.args.store.now) (g.S.Store.map c.args.store.now).at c.put_table_fact-in-PmuMappings.ensures.writes

pub returns-in-SimpleperfMetaInfo : goal.returns-in-SimpleperfMetaInfo
returns-in-SimpleperfMetaInfo g c = writes_at c.in-SimpleperfMetaInfo.is 0 (g.S.Store.endian c.args.store.now) (g.S.Store.map c.args.store.now).at c.put_table_fact-in-SimpleperfMetaInfo.ensures.writes

pub returns-in-NrCpus : goal.returns-in-NrCpus
unfolding write
returns-in-NrCpus g c =
    let o = g.S.Store.endian c.args.store.now in
    let at = (g.S.Store.map c.args.store.now).at in
    writes_at c.in-NrCpus.is 0 o at
    (writes_same (tells cpus (λ x. x) (λ x. write (cpus x)) (of_first 8 nr_cpus) o (at 7) c.nr_cpus.result c.nr_cpus.ensures (λ x q. refl)) c.put_answer.ensures)

pub returns-in-TotalMem : goal.returns-in-TotalMem
unfolding write
returns-in-TotalMem g c =
    let o = g.S.Store.endian c.args.store.now in
    let at = (g.S.Store.map c.args.store.now).at in
    writes_at c.in-TotalMem.is 0 o at
    (writes_same (tells memory (λ x. x) (λ x. write (memory x)) (of_first 8 total_mem) o (at 10) c.total_mem.result c.total_mem.ensures (λ x q. refl)) c.put_answer-in-TotalMem.ensures)

pub returns-in-CmdLine : goal.returns-in-CmdLine
unfolding write
returns-in-CmdLine g c =
    let o = g.S.Store.endian c.args.store.now in
    let at = (g.S.Store.map c.args.store.now).at in
    writes_at c.in-CmdLine.is 0 o at
    (writes_same (tells texts to_come (λ x. write (texts (to_come x))) command_line o (at 11) c.cmdline.result c.cmdline.ensures.is (λ x q. refl)) c.put_answer-in-CmdLine.ensures)

pub returns-in-Stat : goal.returns-in-Stat
returns-in-Stat g c =
    let o = g.S.Store.endian c.args.store.now in
    let at = (g.S.Store.map c.args.store.now).at in
    writes_at c.in-Stat.is 0 o at
    (writes_same (mark_is _ o (at 19) c.is_stats.result c.then_some.result c.is_stats.ensures.is c.then_some.ensures) c.put_answer-in-Stat.ensures)

pub returns-in-ClockId : goal.returns-in-ClockId
unfolding write
returns-in-ClockId g c =
    let o = g.S.Store.endian c.args.store.now in
    let at = (g.S.Store.map c.args.store.now).at in
    writes_at c.in-ClockId.is 0 o at
    (writes_same (tells clock (λ x. x) (λ x. write (clock x)) (of_first 8 clock_frequency) o (at 23) c.clock_frequency.result c.clock_frequency.ensures (λ x q. refl)) c.put_answer-in-ClockId.ensures)

pub returns-in-SimpleperfFile : goal.returns-in-SimpleperfFile
unfolding write
returns-in-SimpleperfFile g c =
    let o = g.S.Store.endian c.args.store.now in
    let m = g.S.Store.map c.args.store.now in
    let is = c.symbol_tables.ensures.is in
    writes_at c.in-SimpleperfFile.is 0 o m.at
    (writes_same
    (tells files files_of (λ v. flat_map counted_file (files_of v)) symbol_tables o (m.at 128) c.symbol_tables.result is
    (λ v q. files-counted o (m.at 128) (files_of v) (m.short 128) (ap (answered files_of) (sym q) ∙ is)))
    c.put_answer-in-SimpleperfFile.ensures)

pub returns-in-Hostname : goal.returns-in-Hostname
returns-in-Hostname g c =
    let o = g.S.Store.endian c.args.store.now in
    let at = (g.S.Store.map c.args.store.now).at in
    writes_same
    (text_at 0 o at c.args.feature c.from.result c.feature_string-text.result (one-text c.args.feature c.in-Hostname.is) c.from.ensures c.feature_string-text.ensures.is)
    c.put_answer-in-Hostname.ensures
