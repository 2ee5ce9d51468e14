-- What a desk holds.
use Rattle.std.specs.Prelude.{◌≡◌, vec_len}
use Rattle.shelf.specs.Contents.{Contents}
use Rattle.desk.specs.declared.desk.Desk.TheInside.{Inside}

-- What its shelf holds.
abbrev pub shelf_contents : Inside → Contents
shelf_contents d = d.shelf

-- The memory that it lends: 65,536 rows and as many work bytes.
pub record HasMemory (d : Inside) : Type 0 where
  pub rows : vec_len d.rows ≡ 65536
  pub work : vec_len d.work ≡ 65536
