-- The definitions on some bytes.
use Rattle.std.specs.Prelude.{◌≡◌, ℕ, cond, List, [], ◌∷◌, ◌++◌, replicate, Some, None, Ok, Err, codes, ◌==◌}
use Rattle.wire.specs.Faults.{section_fault}
use Rattle.wire.specs.declared.order.ByteOrder.TheVariants.{Little}
use Rattle.text.specs.Pieces.{shown}
use Rattle.perf_data.specs.Texts.{feature_string}
use Rattle.mappings.specs.MetaInfo.{meta_table}
use Rattle.dso_key.specs.Detect.{detect}
use Rattle.dso_key.specs.Keys.{kernel_module, user}
use Rattle.dso_key.specs.Modes.{mode_of}
use Rattle.build_ids.specs.Events.{id_of}
use Rattle.facts.specs.Head.{Sections, head_of}

-- A store of no section, and one of an empty section 19 alone.
abbrev pub nothing : Sections
nothing n = None

abbrev pub only_stat : Sections
only_stat n = cond (n == 19) (Some []) None

-- Twenty bytes, no two of them equal.
abbrev pub twenty : List ℕ
twenty =
    0x01 ∷ 0x02 ∷ 0x03 ∷ 0x04 ∷ 0x05 ∷ 0x06 ∷ 0x07 ∷ 0x08 ∷ 0x09 ∷ 0x0A
    ∷ 0x0B ∷ 0x0C ∷ 0x0D ∷ 0x0E ∷ 0x0F ∷ 0x10 ∷ 0x11 ∷ 0x12 ∷ 0x13 ∷ 0x14 ∷ []

pub record Examples : Type 0 where
  -- keys of paths
  pub module_file : detect (codes "/a/snd-seq-device.ko") (mode_of 1) ≡ Some (kernel_module (codes "[snd-seq-device]"))
  pub user_file : detect (codes "/a/snd-seq-device.ko") (mode_of 2) ≡ Some (user (codes "/a/snd-seq-device.ko"))
  pub module_bare : detect (codes ".ko") (mode_of 1) ≡ Some (kernel_module (codes "[]"))
  -- an id without the flag loses its trailing groups of zeros; with it, the length byte counts, up to 20
  pub id_trimmed : id_of 0 (0x01 ∷ replicate 23 0) ≡ 0x01 ∷ 0x00 ∷ 0x00 ∷ 0x00 ∷ []
  pub id_flagged : id_of 0x8000 (twenty ++ (0xFF ∷ replicate 3 0)) ≡ twenty
  -- a header text ends at its NUL, and has to be well formed up to there
  pub text_to_nul : feature_string 3 Little (0x03 ∷ 0x00 ∷ 0x00 ∷ 0x00 ∷ 0x61 ∷ 0x00 ∷ 0xFF ∷ []) ≡ Ok (codes "a")
  pub text_ill_formed : feature_string 3 Little (0x02 ∷ 0x00 ∷ 0x00 ∷ 0x00 ∷ 0xC3 ∷ 0x28 ∷ []) ≡ Err (section_fault 10 3 4)
  -- one replacement for the longest beginning of a sequence
  pub shown_cut : shown (0xF0 ∷ 0x9F ∷ 0x41 ∷ []) ≡ 0xEF ∷ 0xBF ∷ 0xBD ∷ 0x41 ∷ []
  -- the standard's own example of truncated sequences
  pub shown_truncated : shown (0xE1 ∷ 0x80 ∷ 0xE2 ∷ 0xF0 ∷ 0x91 ∷ 0x92 ∷ 0xF1 ∷ 0xBF ∷ 0x41 ∷ [])
      ≡ 0xEF ∷ 0xBF ∷ 0xBD ∷ 0xEF ∷ 0xBF ∷ 0xBD ∷ 0xEF ∷ 0xBF ∷ 0xBD ∷ 0xEF ∷ 0xBF ∷ 0xBD ∷ 0x41 ∷ []
  -- a key given again takes the later value
  pub later_value : meta_table (0x61 ∷ 0x00 ∷ 0x62 ∷ 0x00 ∷ 0x61 ∷ 0x00 ∷ 0x63 ∷ []) ≡ Ok ((codes "a", codes "c") ∷ [])
  -- heads
  pub empty_head : head_of 0 Little nothing ≡ Ok (0x50 ∷ 0x52 ∷ 0x48 ∷ 0x01 ∷ 0x00 ∷ [])
  pub stat_head : head_of 0 Little only_stat ≡ Ok (0x50 ∷ 0x52 ∷ 0x48 ∷ 0x01 ∷ 0x00 ∷ 0x13 ∷ 0x00 ∷ 0x00 ∷ 0x00 ∷ 0x00 ∷ 0x00 ∷ [])
