-- Names with their addresses, as a finite map.
use Rattle.std.specs.Prelude.{ℕ, List, map}
use Rattle.std.specs.Ordering.{nat_cmp}
use Rattle.std.specs.Cmp.Lexicographic.{slice_cmp}
use Rattle.std.specs.FinMap as finite
use Rattle.std.specs.BTreeMap.{BTreeMap}
use Rattle.std.specs.Global.{Vec}
use Rattle.std.specs.Coded.{Coded, coded_ℕ, coded_list}
use Rattle.mq_addr.specs.declared.addr.Addr.{Addr}
use Rattle.mq_addr.specs.contracts.addr.Addr as addr

-- the address of each name
abbrev pub NameTable : Type 0
NameTable = finite.FinMap (slice_cmp nat_cmp) Addr

-- by which a proof tells two tables apart
abbrev pub names_code : Coded NameTable
names_code = finite.code (coded_list coded_ℕ) addr.the_row.coded

-- the names of a tree, each as its bytes
abbrev pub by_bytes : List (Vec ℕ × Addr) → List (List ℕ × Addr)
by_bytes entries = map (λ e. (e.0.items, e.1)) entries

abbrev pub table_of : BTreeMap (Vec ℕ) Addr → NameTable
table_of tree = finite.from_entries (by_bytes tree.entries)
