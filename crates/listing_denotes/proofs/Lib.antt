mod WholeSources
mod WholeWhole
mod EntriesMethods
mod EntriesTypes
mod FaultsMembers
mod FaultsOnce
mod QuietRows
mod QuietWeights
mod QuietData
mod QuietHeaders
mod QuietWhole
mod ValuesNumbers
pub mod ValuesFlags
mod ValuesConstants
pub mod ValuesExterns
mod TermsPaths
mod TermsShapes
pub mod TermsNames
mod TermsTypes
pub mod ReferencesCounts
mod ReferencesFields
mod ReferencesMethods
mod ReferencesAttributes
mod ReferencesWhole
mod ManifestsManifests
mod MembersData
mod MembersFields
mod GenericsWhole
mod MethodsBodies
mod MethodsWhole
mod BodiesFront
mod BodiesLines
mod BodiesRead
mod BodiesLabels
mod BodiesForms
mod BodiesClauses
mod BodiesWhole
mod BodiesMethods
mod AccessorsUnbroken
mod AccessorsLines
mod AccessorsWhole
mod ClassesForests
mod ClassesWhole
mod ClassesDenote
mod DenotingWhole
