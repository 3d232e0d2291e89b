-- The faults of a site line: their codes, and which one a page's fault is. The rules of `Z1` and `Z2` stand in `Site`
-- (`IsJsonOf`, `IsSiteOf`).
use Rattle.std.specs.Prelude.{ℕ, List, codes}
use Rattle.page_tree.specs.declared.fault.PageFault.{PageFault}
use Rattle.page_tree.specs.declared.fault.PageFault.TheVariants as page
use Rattle.site_line.specs.declared.fault.SiteFault.{SiteFault}
use Rattle.site_line.specs.declared.fault.SiteFault.TheVariants.{NotJson, BadMember, NoMemory}

abbrev pub site_fault_code : SiteFault → List ℕ
site_fault_code NotJson = codes "Z1"
site_fault_code BadMember = codes "Z2"
site_fault_code NoMemory = codes "Z3"

-- a page that is none is a member of another form
abbrev pub fault_of_page : PageFault → SiteFault
fault_of_page page.NoMemory = NoMemory
fault_of_page e = BadMember
